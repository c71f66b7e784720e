-- What the rules of every table are written with: counts and searches over its slots, granting the lowest free slot, a
-- call that names a slot.
use Rattle.std.specs.Prelude.{ℕ, zero, suc, Bool, false, cond, ◌||◌, List, [], ◌∷◌, get_or, set}
use Rattle.std.proofs.Math.Option.{Option, none, some}
use Rattle.tables.specs.Trace.{Outcome}

abbrev pub next : Option ℕ → Option ℕ
next none = none
next (some k) = some (suc k)

module _ {X : Type 0} where
  -- how many pass
  abbrev pub count : (X → Bool) → List X → ℕ
  count p [] = zero
  count p (x ∷ xs) = cond (p x) (suc (count p xs)) (count p xs)

  -- does one pass
  abbrev pub any : (X → Bool) → List X → Bool
  any p [] = false
  any p (x ∷ xs) = p x || any p xs

  -- the number of the lowest that passes
  abbrev pub lowest : (X → Bool) → List X → Option ℕ
  lowest p [] = none
  lowest p (x ∷ xs) = cond (p x) (some zero) (next (lowest p xs))

module _ {A X : Type 0} where
  -- a refusal that comes first; else the lowest free slot is given the new record; else the table is full
  unfoldable pub grant : Option A → Option ℕ → A → (ℕ → A) → X → List X → Outcome A (List X)
  grant (some a) k full given new xs = record { answer = a; after = xs }
  grant none none full given new xs = record { answer = full; after = xs }
  grant none (some k) full given new xs = record { answer = given k; after = set xs k new }

  -- a call that names slot k; a number too large is answered as a free slot
  unfoldable pub at_slot : X → (X → Outcome A X) → ℕ → List X → Outcome A (List X)
  at_slot empty f k xs = let o = f (get_or xs k empty) in record { answer = o.answer; after = set xs k o.after }
