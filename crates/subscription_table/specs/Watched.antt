-- Demand 3 for one subscription: slot k of the table, and what it is fed.
use Rattle.subscription.specs.Record.{in_use, matches}
use Rattle.arrival.specs.declared.Arrival.{Arrival}
use Rattle.std.specs.Prelude.{ℕ, ◌*◌, Bool, false, cond, not, List, [], ◌∷◌, eqb, take, drop, get_or}
use Rattle.std.proofs.Math.Option.{Option, none, some}
use Rattle.refusal.specs.Refusal.{number}
use Rattle.refusal.specs.declared.Refusal.TheVariants as refusal
use Rattle.tables.specs.Watch.{Watch}
use Rattle.subscription_table.specs.Slot.{Judged, refusal, passed, judged, slot_octets, free_cell}
use Rattle.subscription_table.specs.Table.{Call, subscribe, unsubscribe, telegram, time_check, read, Answer, granted}
use Rattle.subscription_table.specs.Table.{freed, delivered, marked, shows, refused, Table, step}
use Rattle.subscription.specs.declared.Filter.{Filter}

-- slot k of a table: its record, and store octets 1432k to 1432k+1431
abbrev pub slot_at : ℕ → Table → Table
slot_at k t =
    record {
      records = get_or t.records k free_cell.slot ∷ [];
      store = take slot_octets (drop (k * slot_octets) t.store);
    }

abbrev pub unused : Table → Bool
unused t = not (in_use (get_or t.records 0 free_cell.slot))

abbrev pub gave1 : Answer → Bool
gave1 (granted k) = false
gave1 freed = false
gave1 (delivered n) = false
gave1 (marked n) = false
gave1 (shows s o) = false
gave1 (refused r) = eqb (number r) (number refusal.Sizes)

abbrev pub names : ℕ → Call → Bool
names k (subscribe q time) = false
names k (unsubscribe j) = eqb j k
names k (telegram a d) = false
names k (time_check time) = false
names k (read j set) = eqb j k

abbrev pub fed_telegram : Filter → Arrival → List ℕ → Judged → Option Call
fed_telegram f a d (refusal r) = none
fed_telegram f a d (passed h dataset) = cond (matches f h) (some (telegram a d)) none

-- a call as slot k, granted with the filter f, is fed it, k being the only slot; nothing where it is struck out
abbrev pub fed : ℕ → Filter → Call → Option Call
fed k f (subscribe q time) = none
fed k f (unsubscribe j) = cond (eqb j k) (some (unsubscribe 0)) none
fed k f (telegram a d) = fed_telegram f a d (judged a d)
fed k f (time_check time) = some (time_check time)
fed k f (read j set) = cond (eqb j k) (some (read 0 set)) none

abbrev pub heard : ℕ → Call → Answer → Option Answer
heard k c a = cond (names k c) (some a) none

abbrev pub slot_watch : ℕ → Filter → Watch Call Answer Table
slot_watch k f =
    record {
      step = step;
      slot = slot_at k;
      free = unused;
      fed = fed k f;
      hears = heard k;
      hears_alone = heard k;
      gave1 = gave1;
    }
