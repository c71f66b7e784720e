-- Pieces put into a lent room.
use Rattle.std.specs.Prelude.{◌≡◌, ℕ, List}
use Rattle.answer.specs.declared.Room.{Room}
use Rattle.answer.specs.Answer.{Puts}

-- what a call that puts pieces leaves of a lent room: the place behind them, the octets, and the same memory
pub record Fills (pieces : List (List ℕ)) (before after : Room) : Type 0 where
  pub filled : Puts pieces before.at before.octets.now after.at after.octets.now
  pub memory : after.octets.ghost_name ≡ before.octets.ghost_name
