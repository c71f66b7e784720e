-- The answers of the calls on the subscription table, as structs of numbers.
use Rattle.std.specs.Prelude.{ℕ, ◌*◌, cond, false, Ok, Err, Result}
use Rattle.refusal.specs.Refusal.{number}
use Rattle.refusal.specs.declared.Refusal.{Refusal}
use Rattle.subscription_table.specs.Slot.{slot_octets}
use Rattle.subscription_table.specs.Table as table
use Rattle.subscription.specs.declared.State.{State}
use Rattle.subscription.specs.declared.State.TheVariants.{NeverReceived, Valid, TimedOut}
use Rattle.subscription_decisions.specs.declared.View.{View}
use Rattle.boundary.specs.declared.Outcome.{Outcome}
use Rattle.boundary.specs.declared.Shown.{Shown}
use Rattle.boundary.specs.Wire.{granted, refused}

-- the slot granted; how many slots took a telegram or were marked; 0 where there is nothing to say
abbrev pub outcome_of : table.Answer → Outcome
outcome_of (table.granted k) = granted k
outcome_of table.freed = granted 0
outcome_of (table.delivered n) = granted n
outcome_of (table.marked n) = granted n
outcome_of (table.shows state octets) = granted 0
outcome_of (table.refused r) = refused r

-- 0 never received, 1 valid, 2 timed out
abbrev pub state_number : State → ℕ
state_number NeverReceived = 0
state_number Valid = 1
state_number TimedOut = 2

-- refused with a number, which may be any
abbrev pub nothing_shown : ℕ → Shown
nothing_shown n = record { refusal = n; state = 0; substitute = false; start = 0; length = 0 }

-- of slot k: the substitute set whole, or octets of the store from a start on
abbrev pub of_reading : ℕ → Result View Refusal → Shown
of_reading k (Ok v) =
    record {
      refusal = 0;
      state = state_number v.state;
      substitute = v.substitute;
      start = cond v.substitute 0 (k * slot_octets);
      length = cond v.substitute 0 v.length;
    }
of_reading k (Err r) = nothing_shown (number r)
