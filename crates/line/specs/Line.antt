-- A line taken apart: its verb, and fields of hexadecimal digits with a single space before each.
use Rattle.std.specs.Prelude.{ℕ, ◌+◌, ◌*◌, ◌/◌, ◌%◌, ◌^◌, List, [], ◌∷◌, ◌++◌, Bool, true, false, cond, ◌&&◌}
use Rattle.std.specs.Prelude.{eqb, ltb, leb, length, drop, get_or, replicate}
use Rattle.std.proofs.Math.Option.{Option, none, some}
use Rattle.octets.specs.Octets.{part, put}
use Rattle.hexadecimal.specs.Hex.{is_hex, number, octets_of}
use Rattle.answer.specs.Answer.{spaced, decimal, octets}

-- a line's verb stands before its first space, or is the whole line
abbrev pub verb_is : List ℕ → List ℕ → Bool
verb_is [] [] = true
verb_is (x ∷ s) [] = eqb x 32
verb_is [] (y ∷ verb) = false
verb_is (x ∷ s) (y ∷ verb) = eqb x y && verb_is s verb

-- a space, and n digits behind it
abbrev pub has_digits : List ℕ → ℕ → Bool
has_digits s n = ltb n (length s) && (eqb (get_or s 0 0) 32 && is_hex (part n 1 s))

-- nothing is left of a line
abbrev pub is_nothing : List ℕ → Bool
is_nothing s = eqb (length s) 0

-- a last field: a space, an even number of digits, and no more octets than there is room for
abbrev pub has_last : List ℕ → ℕ → Bool
has_last s room =
    eqb (get_or s 0 0) 32 && (eqb (length s % 2) 1 && (leb (length s / 2) room && is_hex (drop 1 s)))

-- a target after the last field: its octets stand at the front; a line of another form leaves the target as it was
abbrev pub target_after : List ℕ → List ℕ → List ℕ
target_after s target = cond (has_last s (length target)) (put 0 (octets_of (drop 1 s)) target) target

-- what a line says that ends here; nothing where something is left
unfoldable pub with_end : {A : Type 0} → List ℕ → A → Option A
with_end s said = cond (is_nothing s) (some said) none

-- what a line says with its last field, at most 66,000 octets; nothing where it is of another form
unfoldable pub with_octets : {A : Type 0} → List ℕ → (List ℕ → A) → Option A
with_octets s said = cond (has_last s 66000) (some (said (octets_of (drop 1 s)))) none

-- what a line says with a number of n digits, and what is left behind it; nothing where it is of another form
unfoldable pub with_number : {A : Type 0} → List ℕ → ℕ → (ℕ → List ℕ → Option A) → Option A
with_number s n said = cond (has_digits s n) (said (number 0 (part n 1 s)) (drop (n + 1) s)) none

-- what a line says with n octets, and what is left behind them
unfoldable pub with_field : {A : Type 0} → List ℕ → ℕ → (List ℕ → List ℕ → Option A) → Option A
with_field s n said =
    cond (has_digits s (2 * n)) (said (octets_of (part (2 * n) 1 s)) (drop (2 * n + 1) s)) none

-- the number of a field of 8 digits, of 32 bits
abbrev pub eight : ℕ → ℕ
eight x = x % 2 ^ 32

-- the number of a field of 4 digits, of 16 bits
abbrev pub four : ℕ → ℕ
four x = x % 2 ^ 16

-- a target of so many octets: AA before the call that writes it
unfoldable pub target_of : ℕ → List ℕ
target_of room = replicate room 0xAA

-- a call's answer beside its target: a word, LENGTH and the whole TARGET
abbrev pub target_words : List ℕ → ℕ → List ℕ → List (List ℕ)
target_words done n target = spaced done ++ decimal n ++ octets target
