-- What reading a field of a line answers, and what is left of the line behind it.
use Rattle.std.specs.Prelude.{◌≡◌, ℕ, zero, suc, ◌+◌, ◌/◌, List, [], ◌∷◌, cond, length, drop, Option, Some, None}
use Rattle.octets.specs.Octets.{part}
use Rattle.hexadecimal.specs.Hex.{number}
use Rattle.line.specs.Line.{has_digits, has_last, eight}

-- a field of n digits read: what they say, and the line behind them; where it is of another form, nothing, and all is left
pub record Reads {A : Type 0} (n : ℕ) (said : List ℕ → A) (before : List ℕ) (r : Option A) (after : List ℕ) : Type 0
  where
    pub answer : r ≡ cond (has_digits before n) (Some (said (part n 1 before))) None
    pub rest : after ≡ cond (has_digits before n) (drop (n + 1) before) before

-- a number and those behind it
abbrev pub with_first : ℕ → Option (List ℕ) → Option (List ℕ)
with_first x None = None
with_first x (Some xs) = Some (x ∷ xs)

-- the numbers of n fields of 8 digits each
abbrev pub words_in : ℕ → List ℕ → Option (List ℕ)
words_in zero s = Some []
words_in (suc n) s = cond (has_digits s 8) (with_first (eight (number 0 (part 8 1 s))) (words_in n (drop 9 s))) None

-- how many octets a last field has
abbrev pub last_in : List ℕ → ℕ → Option ℕ
last_in s room = cond (has_last s room) (Some (length s / 2)) None
