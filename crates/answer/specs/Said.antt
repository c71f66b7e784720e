-- What a call that answers a line of some verbs leaves of the room for its answer.
use Rattle.std.specs.Prelude.{◌≡◌, ℕ, List, [], Option, Some, None}
use Rattle.std.proofs.Math.Option.{Option as Said, none, some}
use Rattle.answer.specs.declared.Room.{Room}
use Rattle.answer.specs.Lent.{Fills}

-- the pieces of an answer; none where the line is of other verbs or of another form
abbrev pub pieces_of : Said (List (List ℕ)) → List (List ℕ)
pieces_of none = []
pieces_of (some pieces) = pieces

-- whether there is an answer
abbrev pub answered : Said (List (List ℕ)) → Option (Unit {0})
answered none = None
answered (some pieces) = Some tt

-- a line's answer fills the room; where there is none, the room stays as it was
pub record Answered (said : Said (List (List ℕ))) (before : Room) (r : Option (Unit {0})) (after : Room) : Type 0
  where
    pub answers : r ≡ answered said
    pub fills : Fills (pieces_of said) before after
