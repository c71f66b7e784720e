-- The equality of two lists is that of the library's, octet by octet.
-- Assumes nothing.
use mathlib.Core.Path.{◌≡◌, refl}
use mathlib.Core.List.{List, [], ◌∷◌}
use Prim.Native.Nat.{ℕ}
use lib.Dec.{eqb}
use lib.Pointwise.{pointwise}
use Rattle.md.specs.Uri.{equal}

pub equal-is : (s t : List ℕ) → pointwise eqb s t ≡ equal s t
equal-is [] [] = refl
equal-is [] (y ∷ t) = refl
equal-is (x ∷ s) [] = refl
equal-is (x ∷ s) (y ∷ t) = rw (equal-is s t) refl
