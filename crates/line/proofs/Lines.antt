-- A verb compared letter by letter.
-- Assumes nothing.
use mathlib.Core.Path.{◌≡◌, refl, sym, ap, ◌∙◌}
use mathlib.Core.Bool.{Bool, true, false, ◌&&◌, true≢false}
use mathlib.Core.List.{List, [], ◌∷◌}
use lib.Pointwise.{pointwise}
use Rattle.std.specs.Prelude.{nat_eq}
use Prim.Native.Nat.{ℕ, ◌<◌}
use native.Mathlib.Omega.{arith}
use lib.Dec.{eqb}
use lib.ListN.{length, get_or, take, drop}
use Rattle.hexadecimal.proofs.Digits.{and_left, and_right}
use Rattle.line.specs.Line.{verb_is}

-- what stands behind a verb
abbrev pub verb_end : List ℕ → Bool
verb_end [] = true
verb_end (x ∷ s) = eqb x 32

pub verb-found : (s verb : List ℕ) → pointwise nat_eq (take (length verb) s) verb ≡ true → verb_is s verb ≡ verb_end (drop (length verb) s)
verb-found [] [] e = refl
verb-found (x ∷ s) [] e = refl
verb-found [] (y ∷ v) e = absurd (true≢false (sym e))
verb-found (x ∷ s) (y ∷ v) e =
    ap (λ (b : Bool). b && verb_is s v) (and_left (nat_eq x y) (pointwise nat_eq (take (length v) s) v) e)
    ∙ verb-found s v (and_right (nat_eq x y) (pointwise nat_eq (take (length v) s) v) e)

pub verb-other : (s verb : List ℕ) → pointwise nat_eq (take (length verb) s) verb ≡ false → false ≡ verb_is s verb
verb-other [] [] e = absurd (true≢false e)
verb-other (x ∷ s) [] e = absurd (true≢false e)
verb-other [] (y ∷ v) e = refl
verb-other (x ∷ s) (y ∷ v) e = go (nat_eq x y) e (λ d. verb-other s v d)
  where
    go : (b : Bool) → (b && pointwise nat_eq (take (length v) s) v) ≡ false → (pointwise nat_eq (take (length v) s) v ≡ false → false ≡ verb_is s v) → false ≡ (b && verb_is s v)
    go true d k = k d
    go false d k = refl

pub verb-ended : (r : List ℕ) → length r ≡ 0 → verb_end r ≡ true
verb-ended [] h = refl
verb-ended (x ∷ r) h = absurd (omega arith)

pub verb-spaced : (r : List ℕ) → 0 < length r → verb_end r ≡ eqb (get_or r 0 0) 32
verb-spaced [] h = absurd (omega arith)
verb-spaced (x ∷ r) h = refl
