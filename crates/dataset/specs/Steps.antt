-- What the functions behind `convert` promise: a description that was read, and a step of the walk.
use Rattle.std.specs.Prelude.{ℕ, ◌-◌, ◌≡◌, List, Bool, true, false, Result, Ok, Err, map, length}
use Rattle.refusal.specs.declared.Refusal.{Refusal}
use Rattle.octets.specs.Octets.{put}
use Rattle.dataset.specs.Descriptions.{Element, element_of, Description}
use Rattle.dataset.specs.Walk.{Walked, stopped, walked}

-- a description by its id, its elements as the run has them, and the run behind it
abbrev pub described_by : ℕ → List (List ℕ) → List ℕ → Description
described_by id es rest = record { id = id; elements = map element_of es; rest = rest }

-- an element by its two numbers
abbrev pub element : ℕ → ℕ → Element
element t n = record { type = t; count = n }

-- the place behind a walk through data of so many octets, or its refusal
abbrev pub step_of : ℕ → Walked → Result ℕ Refusal
step_of size (stopped r) = Err r
step_of size (walked left done) = Ok (size - length left)

-- a walk was made through data of so many octets from p on: when writing, its octets stand at p in the target; else the
-- target stays
pub record Stepped
    (w : Walked) (size p : ℕ) (write : Bool) (before : List ℕ) (step : Result ℕ Refusal) (after : List ℕ) : Type 0 where
  pub answers : step ≡ step_of size w
  pub judges : write ≡ false → after ≡ before
  pub writes : write ≡ true → (left done : List ℕ) → w ≡ walked left done → after ≡ put p done before
