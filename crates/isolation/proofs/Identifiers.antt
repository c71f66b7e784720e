-- Identifiers compared octet by octet.
-- Assumes nothing.
use mathlib.Core.Path.{◌≡◌, refl, sym, ◌∙◌}
use mathlib.Core.Bool.{true}
use mathlib.Core.List.{List, [], ◌∷◌}
use Prim.Native.Nat.{ℕ}
use Rattle.std.proofs.lemmas.Bool.{eq-eqb}
use Rattle.std.specs.Cmp.Lexicographic.{same_text}
use Rattle.md.specs.Uri.{equal}
use Rattle.md.proofs.Texts.{equal-is}

pub equal-same : (a b : List ℕ) → equal a b ≡ true → a ≡ b
equal-same a b e = same_text a b (sym (equal-is a b ∙ e))

pub equal-refl : (a : List ℕ) → equal a a ≡ true
equal-refl [] = refl
equal-refl (x ∷ a) = rw (eq-eqb x x refl) (equal-refl a)
