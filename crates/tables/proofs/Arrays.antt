-- Arrays of structs: their elements by number.
-- Assumes nothing.
use mathlib.Core.Path.{◌≡◌, refl, sym}
use mathlib.Core.List.{List, [], ◌∷◌}
use Prim.Native.Nat.{ℕ, zero, suc, ◌<◌, ◌≤◌}
use native.Mathlib.Omega.{arith}
use lib.ListN.{length, get_or, set}
use Rattle.std.proofs.lemmas.List.{get_or_past, set_past}

module _ {X : Type 0} where
  -- what stands behind the end does not matter inside
  pub inside : (xs : List X) (n k : ℕ) (d e : X) → length xs ≡ n → k < n → get_or xs k d ≡ get_or xs k e
  inside [] n k d e l h = absurd (omega arith)
  inside (y ∷ ys) n zero d e l h = refl
  inside (y ∷ ys) n (suc k) d e l h = inside ys (length ys) k d e refl (omega arith)

  -- behind the end
  pub past : (xs : List X) (k : ℕ) (d : X) → length xs ≤ k → get_or xs k d ≡ d
  past = get_or_past

  pub outside : (xs : List X) (n k : ℕ) (d : X) → length xs ≡ n → n ≤ k → d ≡ get_or xs k d
  outside xs n k d l h = sym (past xs k d (omega arith))

  -- storing behind the end changes nothing
  pub stored-outside : (xs : List X) (n k : ℕ) (x : X) → length xs ≡ n → n ≤ k → xs ≡ set xs k x
  stored-outside xs n k x l h = sym (set_past xs k x (omega arith))
