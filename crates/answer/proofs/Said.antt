-- A line's answer from what the line says.
-- Assumes nothing.
use Rattle.std.proofs.Common.{◌≡◌, ℕ, List, [], refl, ap, sym}
use Rattle.std.specs.Prelude.{Option as Maybe, Some, None}
use Rattle.std.proofs.Math.Option.{Option, none, some}
use Rattle.answer.specs.declared.Room.{Room}
use Rattle.answer.specs.Lent.{Fills}
use Rattle.answer.proofs.Rooms.{nothing}
use Rattle.answer.specs.Said.{answered, Answered}

-- nothing was put
pub nothing_put : (a : Room) → Fills [] a a
nothing_put a = record { filled = nothing a.at a.octets.now; memory = refl }

module _ {x : Option (List (List ℕ))} where
  -- it says nothing
  pub not_answered : x ≡ none → (a : Room) → Answered x a None a
  not_answered e a =
      record {
        answers = sym (ap answered e);
        fills = rw e
            (record { filled = nothing a.at a.octets.now; memory = refl });
      }

  -- it has these pieces
  pub answered_by : {pieces : List (List ℕ)} {a b : Room} → x ≡ some pieces → Fills pieces a b →
      Answered x a (Some tt) b
  answered_by e f = record { answers = sym (ap answered e); fills = rw e f }

  -- in other words
  pub as_said : {y : Option (List (List ℕ))} {a b : Room} {r : Maybe (Unit {0})} → x ≡ y → Answered y a r b →
      Answered x a r b
  as_said e t = rw e t
