-- A slot's step at an event is the table's rule for it.
-- Assumes nothing.
use mathlib.Core.Path.{◌≡◌}
use mathlib.Core.List.{List}
use Prim.Native.Nat.{ℕ, ◌≤◌}
use native.Mathlib.Omega.{arith}
use lib.ListN.{length}
use Rattle.subscription_step.specs.declared.Event.TheVariants.{Telegram, Clock}
use Rattle.subscription.specs.declared.Heard.{Heard}
use Rattle.subscription_table.specs.Slot.{slot_octets, Cell, deliver, mark}
use Rattle.subscription_step.specs.Step.{record_after, part_after}

-- a telegram that a part can hold, and the clock, step a slot as the rules say
pub telegram-steps : (h : Heard) (dataset : List ℕ) (x : Cell) → length dataset ≤ slot_octets
    → deliver h dataset x ≡ record {
      slot = record_after (Telegram h) (length dataset) x.slot;
      octets = part_after (Telegram h) dataset x.slot x.octets;
    }
unfolding slot_octets
telegram-steps h dataset x k = grind arith

pub clock-steps : (time : ℕ) (dataset : List ℕ) (x : Cell) → length x.octets ≡ slot_octets
    → mark time x ≡ record {
      slot = record_after (Clock time) (length dataset) x.slot;
      octets = part_after (Clock time) dataset x.slot x.octets;
    }
clock-steps time dataset x e = grind arith
