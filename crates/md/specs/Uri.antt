-- URI fields of 32 octets.
use Rattle.std.specs.Prelude.{ℕ, List, [], ◌∷◌, Bool, true, false, cond, ◌&&◌, ◌||◌, eqb, get_or}

-- a URI ends at its first zero octet
abbrev pub text : List ℕ → List ℕ
text [] = []
text (x ∷ s) = cond (eqb x 0) [] (x ∷ text s)

-- two lists are equal
abbrev pub equal : List ℕ → List ℕ → Bool
equal [] [] = true
equal [] (y ∷ t) = false
equal (x ∷ s) [] = false
equal (x ∷ s) (y ∷ t) = eqb x y && equal s t

-- URIs are compared up to there
abbrev pub same_uri : List ℕ → List ℕ → Bool
same_uri a b = equal (text a) (text b)

-- the field has a zero octet
abbrev pub sound : List ℕ → Bool
sound [] = false
sound (x ∷ s) = eqb x 0 || sound s

-- the first octet is zero, or there is none
abbrev pub empty : List ℕ → Bool
empty u = eqb (get_or u 0 0) 0
