-- An answer gathered in a room of octets, piece by piece, and its words.
use Rattle.std.specs.Prelude.{◌≡◌, ℕ, zero, suc, ◌+◌, ◌/◌, ◌%◌, cond, List, [], ◌∷◌, ◌++◌, length, ℤ, pos, negsuc, nat_le, nat_lt, Ok, Err, Result}
use Prim.Native.Char.{code}
use Prim.Native.String.{String, [] as none, ◌∷◌ as ◌then◌}
use Rattle.std.proofs.Math.Option.{Option, none as nothing, some}
use Rattle.refusal.specs.declared.Refusal.{Refusal}
use Rattle.refusal.specs.Refusal.{number as number_of}
use Rattle.octets.specs.Octets.{put}
use Rattle.hexadecimal.specs.Hex.{digits_of, hex_of}

-- the octets of a text
abbrev pub ascii : String → List ℕ
ascii none = []
ascii (c then s) = code c ∷ ascii s

-- a room, and the place where the next piece goes
pub record Room : Type 0 where
  pub at : ℕ
  pub octets : List ℕ

abbrev pub room : ℕ → List ℕ → Room
room at octets = record { at = at; octets = octets }

-- a piece put at the place, which moves behind it; one that does not fit is left out, and the place is the room's end
unfoldable pub put_piece : List ℕ → Room → Room
put_piece s r =
    cond (nat_le (r.at + length s) (length r.octets))
    (room (r.at + length s) (put r.at s r.octets))
    (room (length r.octets) r.octets)

-- pieces one after the other
abbrev pub put_all : List (List ℕ) → Room → Room
put_all [] r = r
put_all (s ∷ ss) r = put_all ss (put_piece s r)

-- what a call that puts pieces at a place answers, the place behind them, and what it leaves in the room
pub record Puts (pieces : List (List ℕ)) (at : ℕ) (before : List ℕ) (r : ℕ) (after : List ℕ) : Type 0 where
  pub puts : room r after ≡ put_all pieces (room at before)

-- a line's answer: pieces; or nothing, where it is no line of these verbs: then the place is 0 and the room stays as it was
abbrev pub answered_by : Option (List (List ℕ)) → Room → Room
answered_by nothing r = room 0 r.octets
answered_by (some pieces) r = put_all pieces r

pub record Answers (pieces : Option (List (List ℕ))) (at : ℕ) (before : List ℕ) (r : ℕ) (after : List ℕ) : Type 0 where
  pub answers : room r after ≡ answered_by pieces (room at before)

-- a space, and octets as they are
unfoldable pub spaced : List ℕ → List (List ℕ)
spaced s = ascii " " ∷ s ∷ []

-- a space and a word
abbrev pub word : String → List (List ℕ)
word s = spaced (ascii s)

-- the decimal digits of a number of at most k, most significant first, and none before the first that is not 0
unfoldable pub decimal_in : ℕ → ℕ → List ℕ
decimal_in zero x = []
decimal_in (suc k) x = cond (nat_lt x 10) ((48 + x) ∷ []) (decimal_in k (x / 10) ++ ((48 + x % 10) ∷ []))

-- those of a number of 64 bits
unfoldable pub decimal_of : ℕ → List ℕ
decimal_of x = decimal_in 20 x

-- a space and a number in decimal
abbrev pub decimal : ℕ → List (List ℕ)
decimal x = spaced (decimal_of x)

-- a space and a number in n hexadecimal digits
unfoldable pub number : ℕ → ℕ → List (List ℕ)
number n x = spaced (digits_of n x)

-- a space and octets in hexadecimal
unfoldable pub octets : List ℕ → List (List ℕ)
octets s = spaced (hex_of s)

-- a space and a signed number in decimal: a minus sign before the digits of its absolute value
unfoldable pub signed : ℤ → List (List ℕ)
signed (pos n) = decimal n
signed (negsuc n) = ascii " -" ∷ decimal_of (suc n) ∷ []

-- a space, a word and a number in decimal
abbrev pub word_of : List ℕ → ℕ → List (List ℕ)
word_of s x = spaced s ++ decimal x

-- `refused` and a number of document 01
abbrev pub refused : ℕ → List (List ℕ)
refused r = word_of (ascii "refused") r

-- what was granted, behind its word; or `refused` and the number
abbrev pub granted_words : List ℕ → Result ℕ Refusal → List (List ℕ)
granted_words w (Ok n) = word_of w n
granted_words w (Err r) = refused (number_of r)

-- what was done, in a word; or `refused` and the number
abbrev pub done_words : List ℕ → Result (Unit {0}) Refusal → List (List ℕ)
done_words w (Ok u) = spaced w
done_words w (Err r) = refused (number_of r)
