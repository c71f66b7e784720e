-- A search that goes from slot to slot finds the lowest that passes.
-- Assumes nothing.
use mathlib.Core.Path.{◌≡◌, refl, sym, ap, ◌∙◌}
use mathlib.Core.Bool.{Bool, true, false, cond, ◌||◌}
use mathlib.Core.List.{List, [], ◌∷◌}
use mathlib.Core.Option.{Option, none, some}
use Prim.Native.Nat.{ℕ, zero, suc, ◌<◌, ◌≤◌}
use native.Mathlib.Omega.{arith}
use lib.ListN.{length, get_or}
use Rattle.std.specs.Prelude.{Some, None, Ok, Err, Result}
use Rattle.std.specs.Option.{MatchOption, is_some, ok_or}
use Rattle.std.specs.Prelude as code
use Rattle.tables.specs.Lists.{any, lowest, next}
use Rattle.session_table.specs.Sought.{found_of}

module _ {X : Type 0} (p : X → Bool) (d : X) where
  lowest-first : (xs : List X) (i : ℕ) → i < length xs → p (get_or xs i d) ≡ true
      → ((k : ℕ) → k < i → p (get_or xs k d) ≡ false) → lowest p xs ≡ some i
  lowest-first [] i h e n = absurd (omega arith)
  lowest-first (x ∷ xs) zero h e n = rw e refl
  lowest-first (x ∷ xs) (suc i) h e n =
      rw (n zero (omega arith), lowest-first xs i (omega arith) e (λ k l. n (suc k) (omega arith))) refl

  lowest_none : (xs : List X) → ((k : ℕ) → k < length xs → p (get_or xs k d) ≡ false) → lowest p xs ≡ none
  lowest_none [] n = refl
  lowest_none (x ∷ xs) n = rw (n zero (omega arith), lowest_none xs (λ k l. n (suc k) (omega arith))) refl

  -- what is known of the answer for each slot of a table that it is asked of
  abbrev pub Answers : List X → ℕ → Bool → ℕ → Type 0
  Answers xs n b k = k < n → p (get_or xs k d) ≡ b

  -- the slots are asked from the first on
  pub first-found : (xs : List X) (n : ℕ) (r : code.Option ℕ) → length xs ≡ n
      → MatchOption r ((k : ℕ) → 0 ≤ k → k < n → Answers xs n false k)
      (λ i. (0 ≤ i) × (i < n) × Answers xs n true i × ((k : ℕ) → 0 ≤ k → k < i → Answers xs n false k))
      → r ≡ found_of (lowest p xs)
  first-found xs n None l m = ap found_of (sym (lowest_none xs (λ k h. m k (omega arith) (omega arith) (omega arith))))
  first-found xs n (Some i) l m =
      let h : i < n = m.1 in
      ap found_of (sym (lowest-first xs i (omega arith) (m.2 h) (λ k q. m.3 k (omega arith) q (omega arith))))

-- one passes exactly where a lowest one is found
any_found : {X : Type 0} (p : X → Bool) (xs : List X) → any p xs ≡ is_some (found_of (lowest p xs))
any_found p [] = refl
any_found p (x ∷ xs) = go (p x) (any_found p xs)
  where
    later : (l : Option ℕ) → is_some (found_of l) ≡ is_some (found_of (next l))
    later none = refl
    later (some k) = refl

    go : (b : Bool) → any p xs ≡ is_some (found_of (lowest p xs))
        → b || any p xs ≡ is_some (found_of (cond b (some 0) (next (lowest p xs))))
    go true e = refl
    go false e = e ∙ later (lowest p xs)

-- .. so a search asks whether one passes
pub asked : {X : Type 0} (p : X → Bool) (xs : List X) (f : code.Option ℕ) (b c : Bool) → f ≡ found_of (lowest p xs)
    → b ≡ is_some f → b ≡ c → any p xs ≡ c
asked p xs f b c e s h = any_found p xs ∙ ap is_some (sym e) ∙ sym s ∙ h

-- ---- what was found

pub found_none : (o : Option ℕ) → found_of o ≡ None → o ≡ none
found_none none e = refl
found_none (some k) e = cc

pub found_some : (o : Option ℕ) (k : ℕ) → found_of o ≡ Some k → o ≡ some k
found_some none k e = cc
found_some (some j) k e = let z : j ≡ k = cc in ap some z

-- .. or refused for want of one, by what a search and its `ok_or` promise
module _ {E : Type 0} (o : Option ℕ) (n : E) {f : code.Option ℕ} {v : Result ℕ E} (d : f ≡ found_of o) (w : v ≡ ok_or f n) where
  refused-as : v ≡ ok_or (found_of o) n
  refused-as = w ∙ ap (λ (g : code.Option ℕ). ok_or g n) d

  pub refused-none : (e : E) → v ≡ Err e → (o ≡ none) × (e ≡ n)
  refused-none e q = go o (sym refused-as ∙ q)
    where
      go : (p : Option ℕ) → ok_or (found_of p) n ≡ Err e → (p ≡ none) × (e ≡ n)
      go none q = let z : e ≡ n = cc in (refl, z)
      go (some k) q = cc

  pub granted-some : (k : ℕ) → v ≡ Ok k → o ≡ some k
  granted-some k q = go o (sym refused-as ∙ q)
    where
      go : (p : Option ℕ) → ok_or (found_of p) n ≡ Ok k → p ≡ some k
      go none q = cc
      go (some j) q = let z : j ≡ k = cc in ap some z
