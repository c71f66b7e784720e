-- A slot's step at an event, as its record and its part of the store take it; and what reading shows.
use Rattle.std.specs.Prelude.{ℕ, ◌+◌, ◌*◌, ◌<◌, ◌^◌, ◌≡◌, List, [], Bool, true, false, cond, ◌&&◌, leb, length, replicate}
use Rattle.octets.specs.Octets.{part, put}
use Rattle.subscription_step.specs.declared.Event.{Event}
use Rattle.subscription_step.specs.declared.Event.TheVariants.{Telegram, Clock}
use Rattle.subscription.specs.declared.Subscription.{Subscription}
use Rattle.subscription_step.specs.declared.Tally.{Tally}
use Rattle.subscription.specs.Record.{record_wants, record_takes, record_taken, record_due, record_marked, zeroes, substitutes}

-- a telegram reaches the slot's filter; the clock reaches none
abbrev pub reaches : Event → Subscription → Bool
reaches (Telegram h) r = record_wants h r
reaches (Clock time) r = false

-- an event concerns the slots that it can change or count: a telegram those whose filter matches, the clock those whose time is up
abbrev pub concerns : Event → Subscription → Bool
concerns (Telegram h) r = record_wants h r
concerns (Clock time) r = record_due time r

-- the slot takes a telegram with a dataset of n octets (more than a part can hold are taken by none), or is marked
abbrev pub changes : Event → ℕ → Subscription → Bool
changes (Telegram h) n r = leb n 1432 && record_takes h r
changes (Clock time) n r = record_due time r

-- the record that changes
abbrev pub changed_record : Event → ℕ → Subscription → Subscription
changed_record (Telegram h) n r = record_taken h n r
changed_record (Clock time) n r = record_marked r

-- its part: the first octets become the dataset; marking clears it for behaviour zero
abbrev pub changed_part : Event → List ℕ → Subscription → List ℕ → List ℕ
changed_part (Telegram h) dataset r octets = put 0 dataset octets
changed_part (Clock time) dataset r octets = cond (zeroes r) (replicate (length octets) 0) octets

-- a slot that does not change stays as it is
abbrev pub record_after : Event → ℕ → Subscription → Subscription
record_after ev n r = cond (changes ev n r) (changed_record ev n r) r

abbrev pub part_after : Event → List ℕ → Subscription → List ℕ → List ℕ
part_after ev dataset r octets = cond (changes ev (length dataset) r) (changed_part ev dataset r octets) octets

abbrev pub one : Bool → ℕ
one true = 1
one false = 0

-- slots reached and slots changed are counted
abbrev pub tallied : Event → ℕ → Subscription → Tally → Tally
tallied ev n r t = record { matched = t.matched + one (reaches ev r); changed = t.changed + one (changes ev n r) }

-- a step's record, tally and part of the store
pub record Steps (ev : Event) (dataset : List ℕ) (r : Subscription) (t : Tally) (octets : List ℕ)
    (r' : Subscription) (t' : Tally) (octets' : List ℕ) : Type 0 where
  pub record-after : r' ≡ record_after ev (length dataset) r
  pub tally-after : t' ≡ tallied ev (length dataset) r t
  pub part-after : octets' ≡ part_after ev dataset r octets

-- before the first slot nothing is counted
abbrev pub no_tally : Tally
no_tally = record { matched = 0; changed = 0 }

-- both counts can still grow by n
pub record Room (n : ℕ) (t : Tally) : Type 0 where
  pub matched : t.matched + n < 2 ^ 64
  pub changed : t.changed + n < 2 ^ 64

-- slot k owns store octets 1432k to 1432k+1431: the first n of them; nothing where the store has no such part
abbrev pub stored_at : ℕ → ℕ → List ℕ → List ℕ
stored_at k n store = cond (leb (k * 1432 + n) (length store)) (part n (k * 1432) store) []

-- the substitute set whole where the slot is not valid and its behaviour is substitute; else the first stored-length octets of its part
abbrev pub shown_at : Subscription → ℕ → List ℕ → List ℕ → List ℕ
shown_at r k store set = cond (substitutes r) set (stored_at k r.length store)
