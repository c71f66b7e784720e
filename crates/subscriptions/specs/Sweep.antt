-- An event at every slot of a lent table: records, store and tally after it.
use Rattle.std.specs.Prelude.{ℕ, ◌*◌, ◌≡◌, List, [], ◌∷◌, ◌++◌, map, cond, length, take, drop, Ok, Err, Result}
use Rattle.octets.specs.Octets.{part, put}
use Rattle.refusal.specs.declared.Refusal.{Refusal}
use Rattle.refusal.specs.declared.Refusal.TheVariants as refusal
use Rattle.subscription_step.specs.declared.Event.{Event}
use Rattle.subscription.specs.declared.Subscription.{Subscription}
use Rattle.subscription_step.specs.declared.Tally.{Tally}
use Rattle.subscription_step.specs.Step.{record_after, part_after, tallied, no_tally}
use Rattle.subscription_table.specs.Slot.{slot_octets}
use Rattle.subscription_table.specs.Table.{fits}

-- slot k owns store octets 1432k to 1432k+1431: each part after the event, in order
abbrev pub store_after : Event → List ℕ → List Subscription → List ℕ → List ℕ
store_after ev dataset [] store = store
store_after ev dataset (r ∷ rs) store = part_after ev dataset r (take slot_octets store) ++ store_after ev dataset rs (drop slot_octets store)

-- the slots reached and changed, counted one after the other
abbrev pub tally_after : Event → ℕ → List Subscription → Tally → Tally
tally_after ev n [] t = t
tally_after ev n (r ∷ rs) t = tally_after ev n rs (tallied ev n r t)

-- the store after slot k's part took an event
abbrev pub store_stepped : Event → List ℕ → Subscription → ℕ → List ℕ → List ℕ
store_stepped ev dataset r k store =
    put (k * slot_octets) (part_after ev dataset r (part slot_octets (k * slot_octets) store)) store

-- sizes that are wrong are refused with 1, and all stays
pub record Sweeps (ev : Event) (dataset : List ℕ) (records : List Subscription) (store : List ℕ)
    (swept : Result Tally Refusal) (records' : List Subscription) (store' : List ℕ) : Type 0 where
  pub answers : swept
      ≡ cond (fits (length records) (length store)) (Ok (tally_after ev (length dataset) records no_tally)) (Err refusal.Sizes)
  pub records-after : records'
      ≡ cond (fits (length records) (length store)) (map (record_after ev (length dataset)) records) records
  pub store-after : store' ≡ cond (fits (length records) (length store)) (store_after ev dataset records store) store
