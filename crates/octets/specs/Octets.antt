-- Octets: the numbers that they write, parts of a list of them, and a list after a part of it was written.
use Rattle.std.specs.Prelude.{ℕ, zero, suc, ◌+◌, ◌*◌, ◌-◌, ◌/◌, ◌%◌, ◌<◌, List, [], ◌∷◌, ◌++◌, reverse, cond, ltb, ℤ, pos, negsuc, length, get_or, take, drop}

-- each is below 256
pub record Octets (s : List ℕ) : Type 0 where
  pub below : (k : ℕ) → get_or s k 0 < 256

-- the number that octets write, least significant first
abbrev pub little : List ℕ → ℕ
little [] = 0
little (x ∷ s) = x + 256 * little s

-- the number that octets write, most significant first (big endian)
abbrev pub big : List ℕ → ℕ
big s = little (reverse s)

-- a number in n octets, least significant first
abbrev pub little_of : ℕ → ℕ → List ℕ
little_of zero x = []
little_of (suc n) x = x % 256 ∷ little_of n (x / 256)

-- a number in n octets, most significant first (big endian)
abbrev pub big_of : ℕ → ℕ → List ℕ
big_of n x = reverse (little_of n x)

-- n octets of s at k
abbrev pub part : ℕ → ℕ → List ℕ → List ℕ
part n k s = take n (drop k s)

-- s with t written at k; the octets before and behind stay
abbrev pub put : ℕ → List ℕ → List ℕ → List ℕ
put k t s = take k s ++ t ++ drop (k + length t) s

-- 32 bits read as a signed number, in two's complement
abbrev pub signed : ℕ → ℤ
signed x = cond (ltb x 0x8000_0000) (pos x) (negsuc (0xFFFF_FFFF - x))

-- the 32 bits of a signed number
abbrev pub unsigned : ℤ → ℕ
unsigned (pos n) = n
unsigned (negsuc n) = 0xFFFF_FFFF - n
