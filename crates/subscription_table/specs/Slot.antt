-- One slot: a subscription's record and its 1432 octets of the store. Document 01, Subscriptions.
use Rattle.std.specs.Prelude.{ℕ, Bool, cond, List, ◌++◌, ltb, length, take, drop, replicate, Ok, Err, Result}
use Rattle.refusal.specs.Refusal.{Check, first_of}
use Rattle.refusal.specs.declared.Refusal.{Refusal}
use Rattle.arrival.specs.declared.Arrival.{Arrival}
use Rattle.arrival.specs.Arrival.{arrival_checks}
use Rattle.telegram.specs.Telegram.{common_of, dataset_of}
use Rattle.telegram.specs.declared.Family.TheVariants as family
use Rattle.subscription.specs.declared.Filter.{Filter}
use Rattle.subscription.specs.declared.Heard.{Heard}
use Rattle.subscription.specs.declared.Subscription.{Subscription}
use Rattle.subscription.specs.Record.{free_record, granted_record, record_wants, record_takes, record_taken, record_due}
use Rattle.subscription.specs.Record.{record_marked, zeroes, substitutes}

-- ---- a telegram, and what checks 2 to 7 make of it

-- 2 to 7
abbrev pub pd_checks : Arrival → List ℕ → List Check
pd_checks a d = arrival_checks family.Pd a d

-- what a slot sees of it
abbrev pub heard_of : Arrival → List ℕ → Heard
heard_of a d =
    record {
      com_id = (common_of d).com_id;
      sender = a.sender;
      destination = a.destination;
      counter = (common_of d).sequence_counter;
      time = a.time;
    }

-- a refusal, or what slots see of the telegram and its dataset
pub data Judged : Type 0 where
  refusal : Refusal → Judged
  passed : Heard → List ℕ → Judged

abbrev pub judged_by : Result (Unit {0}) Refusal → Heard → List ℕ → Judged
judged_by (Ok v) h s = passed h s
judged_by (Err r) h s = refusal r

unfoldable pub judged : Arrival → List ℕ → Judged
judged a d = judged_by (first_of (pd_checks a d)) (heard_of a d) (dataset_of family.Pd d)

-- ---- the slot

-- the octets of the store that a slot owns
unfoldable pub slot_octets : ℕ
slot_octets = 1432

pub record Cell : Type 0 where
  pub slot : Subscription
  pub octets : List ℕ

-- the arguments of a subscribing, but for the time
pub record Request : Type 0 where
  pub filter : Filter
  pub timeout : ℕ
  pub behaviour : ℕ

abbrev pub free_cell : Cell
free_cell = record { slot = free_record; octets = replicate slot_octets 0 }

-- granted: store part zeroed, nothing received, supervision started
abbrev pub granted_cell : Request → ℕ → Cell
granted_cell q time =
    record { slot = granted_record q.filter q.timeout q.behaviour time; octets = replicate slot_octets 0 }

abbrev pub wants : Heard → Cell → Bool
wants h x = record_wants h x.slot

abbrev pub takes : Heard → Cell → Bool
takes h x = record_takes h x.slot

-- the part's first datasetLength octets become the dataset; the rest of the part stays
abbrev pub taken : Heard → List ℕ → Cell → Cell
taken h s x = record { slot = record_taken h (length s) x.slot; octets = s ++ drop (length s) x.octets }

-- a telegram at one slot: stale slots, and those whose filter does not match, do not change
abbrev pub deliver : Heard → List ℕ → Cell → Cell
deliver h s x = cond (takes h x) (taken h s x) x

abbrev pub due : ℕ → Cell → Bool
due time x = record_due time x.slot

-- marking clears the whole part for behaviour zero
abbrev pub marked : Cell → Cell
marked x = record { slot = record_marked x.slot; octets = cond (zeroes x.slot) (replicate slot_octets 0) x.octets }

-- a time check at one slot
abbrev pub mark : ℕ → Cell → Cell
mark time x = cond (due time x) (marked x) x

-- what reading shows: the substitute set whole, or the first stored-length octets of the part
unfoldable pub shown : List ℕ → Cell → List ℕ
shown set x = cond (substitutes x.slot) set (take x.slot.length x.octets)

-- 1: the record read says over 1432
unfoldable pub overlong : Cell → Bool
overlong x = ltb slot_octets x.slot.length
