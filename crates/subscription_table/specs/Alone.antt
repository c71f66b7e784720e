-- Demand 3: the slot alone, and the model made of slots alone.
use Rattle.subscription.specs.Record.{matches, equal, unsound}
use Rattle.arrival.specs.declared.Arrival.{Arrival}
use Rattle.subscription.specs.declared.Heard.{Heard}
use Rattle.refusal.specs.declared.Refusal.TheVariants as refusal
use Rattle.std.specs.Prelude.{ℕ, zero, suc, Bool, true, false, cond, List, [], ◌∷◌, ◌++◌, map, replicate}
use Rattle.tables.specs.Lists.{count, any, lowest, grant, at_slot}
use Rattle.tables.specs.Trace.{Outcome, trace}
use Rattle.subscription_table.specs.Slot.{Judged, refusal, passed, judged, Request, slot_octets, granted_cell}
use Rattle.subscription_table.specs.Table.{Call, subscribe, unsubscribe, telegram, time_check, read, Answer, granted}
use Rattle.subscription_table.specs.Table.{freed, delivered, marked, shows, refused, early, delivered_to, Table, lent}
use Rattle.subscription_table.specs.Table.{fits, step, empty_table}

-- what a slot alone is fed after its grant: a call, but for the slot's number
pub data Fed : Type 0 where
  arrived : Arrival → List ℕ → Fed
  checked : ℕ → Fed
  asked : List ℕ → Fed

-- .. as a call to a table with no other slot
abbrev pub own : Fed → Call
own (arrived a d) = telegram a d
own (checked time) = time_check time
own (asked set) = read 0 set

-- free; or its grant, and what it was fed since, the latest first
pub data Slot : Type 0 where
  free : Slot
  held : Request → ℕ → List Fed → Slot

-- the slot alone: a record and 1432 octets, which step by the rules of the table as a table's only slot
unfoldable pub alone : Request → ℕ → List Fed → Table
alone q time [] = lent (granted_cell q time ∷ [])
alone q time (f ∷ fs) = (step (own f) (alone q time fs)).after

abbrev pub only : Slot → Table
only free = empty_table 1 slot_octets
only (held q time fs) = alone q time fs

-- ---- slots alone, side by side

abbrev pub joined : List Slot → Table
joined [] = empty_table 0 0
joined (s ∷ ss) =
    record { records = (only s).records ++ (joined ss).records; store = (only s).store ++ (joined ss).store }

abbrev pub is_free : Slot → Bool
is_free free = true
is_free (held q time fs) = false

abbrev pub granted_same : Request → Slot → Bool
granted_same r free = false
granted_same r (held q time fs) = equal r.filter q.filter

-- the filter of its grant lets the telegram in
abbrev pub reached : Heard → Slot → Bool
reached h free = false
reached h (held q time fs) = matches q.filter h

abbrev pub feed : Fed → Slot → Slot
feed f free = free
feed f (held q time fs) = held q time (f ∷ fs)

-- did a slot alone take the telegram, or was it marked
abbrev pub changed : Answer → Bool
changed (granted k) = false
changed freed = false
changed (delivered n) = true
changed (marked zero) = false
changed (marked (suc n)) = true
changed (shows s o) = false
changed (refused r) = false

abbrev pub changes : Fed → Slot → Bool
changes f s = changed (step (own f) (only s)).answer

abbrev pub arriving_beside : Arrival → List ℕ → Judged → List Slot → Outcome Answer (List Slot)
arriving_beside a d (refusal r) ss = record { answer = refused r; after = ss }
arriving_beside a d (passed h dataset) ss =
    record {
      answer = delivered_to (any (reached h) ss) (count (changes (arrived a d)) ss);
      after = map (λ s. cond (reached h s) (feed (arrived a d) s) s) ss;
    }

-- grants and numbers by the rules over the filters granted and not freed; all else by the slots alone
unfoldable pub beside : Call → List Slot → Outcome Answer (List Slot)
beside (subscribe q time) ss = grant (early (unsound q.filter) (any (granted_same q) ss)) (lowest is_free ss)
    (refused refusal.NoFreeSlot) granted (held q time []) ss
beside (unsubscribe k) ss =
    at_slot free (λ s. record { answer = (step (unsubscribe 0) (only s)).answer; after = free }) k ss
beside (telegram a d) ss = arriving_beside a d (judged a d) ss
beside (time_check time) ss =
    record { answer = marked (count (changes (checked time)) ss); after = map (feed (checked time)) ss }
beside (read k set) ss =
    at_slot free (λ s. record { answer = (step (read 0 set) (only s)).answer; after = feed (asked set) s }) k ss

-- where the table is refused, so is every call
abbrev pub refusing : Call → Table → Outcome Answer Table
refusing c t = record { answer = refused refusal.Sizes; after = t }

-- the answers, records and store after each call that the slots alone give, side by side
unfoldable pub side_by_side : ℕ → ℕ → List Call → List (Outcome Answer Table)
side_by_side n octets cs =
    cond (fits n octets) (trace beside joined cs (replicate n free)) (trace refusing (λ t. t) cs (empty_table n octets))
