-- Hexadecimal, capitals only: what digits write, as a number and as octets, and the digits of both.
use Rattle.std.specs.Prelude.{ℕ, zero, suc, ◌+◌, ◌*◌, ◌-◌, ◌/◌, ◌%◌, List, [], ◌∷◌, ◌++◌, Bool, true, cond, ◌&&◌, ltb}

-- the value of a capital digit, '0' to '9' and 'A' to 'F'; 16 of any other octet
abbrev pub digit : ℕ → ℕ
digit x = cond (ltb x 48) 16 (cond (ltb x 58) (x - 48) (cond (ltb x 65) 16 (cond (ltb x 71) (x - 55) 16)))

-- every octet is a digit
abbrev pub is_hex : List ℕ → Bool
is_hex [] = true
is_hex (x ∷ s) = ltb (digit x) 16 && is_hex s

-- the number that digits write, begun at c
abbrev pub number : ℕ → List ℕ → ℕ
number c [] = c
number c (x ∷ s) = number (16 * c + digit x) s

-- two digits an octet, the first the upper half; a lone last digit writes nothing
abbrev pub octets_of : List ℕ → List ℕ
octets_of [] = []
octets_of (x ∷ []) = []
octets_of (x ∷ y ∷ s) = (16 * digit x + digit y) ∷ octets_of s

-- the capital digit of a value below 16
abbrev pub digit_of : ℕ → ℕ
digit_of d = cond (ltb d 10) (48 + d) (55 + d)

-- the n digits of a number, most significant first
abbrev pub digits_of : ℕ → ℕ → List ℕ
digits_of zero x = []
digits_of (suc n) x = digits_of n (x / 16) ++ (digit_of (x % 16) ∷ [])

-- the digits of octets, two each
abbrev pub hex_of : List ℕ → List ℕ
hex_of [] = []
hex_of (x ∷ s) = digits_of 2 x ++ hex_of s
