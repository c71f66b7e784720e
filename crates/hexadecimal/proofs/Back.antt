-- What is written as hexadecimal reads back: a number from its digits, octets from theirs, and all that is written
-- is hexadecimal.
-- Assumes nothing.
use mathlib.Core.Path.{◌≡◌, refl, sym, ap, ap₂, ◌∙◌, subst}
use mathlib.Core.Bool.{Bool, true, false, ◌&&◌, and_assoc}
use mathlib.Core.List.{List, [], ◌∷◌, ◌++◌}
use Prim.Native.Nat.{ℕ, zero, suc, ◌+◌, ◌*◌, ◌/◌, ◌%◌, ◌^◌, ◌<◌, ◌≤◌}
use native.Mathlib.Nat.{pow-suc}
use native.Mathlib.Omega.{arith}
use borrow.Author.Tests.{ltb-true, ltb-false, lt-ltb, le-ltb}
use lib.Dec.{ltb}
use Rattle.octets.specs.Octets.{Octets}
use Rattle.hexadecimal.specs.Hex.{digit, is_hex, number, octets_of, digit_of, digits_of, hex_of}

digit-back : (d : ℕ) → d < 16 → digit (digit_of d) ≡ d
digit-back d h = go (ltb d 10) refl
  where
    go : (b : Bool) → ltb d 10 ≡ b → digit (digit_of d) ≡ d
    go true e =
        let l : d < 10 = ltb-true d 10 e in
        rw (e, le-ltb (48 + d) 48 (omega arith), lt-ltb (48 + d) 58 (omega arith)) (omega arith)
    go false e =
        let l : 10 ≤ d = ltb-false d 10 e in
        rw (
          e,
          le-ltb (55 + d) 48 (omega arith),
          le-ltb (55 + d) 58 (omega arith),
          le-ltb (55 + d) 65
              (omega arith),
          lt-ltb (55 + d) 71 (omega arith),
        ) (omega arith)

number-last : (s : List ℕ) (c y : ℕ) → number c (s ++ (y ∷ [])) ≡ 16 * number c s + digit y
number-last [] c y = refl
number-last (x ∷ s) c y = number-last s (16 * c + digit x) y

-- the n digits of a number read back
pub number-back : (n x : ℕ) → x < 16 ^ n → number 0 (digits_of n x) ≡ x
number-back zero x h = omega arith
number-back (suc n) x h =
    let up : x < 16 ^ n * 16 = subst (λ (m : ℕ). x < m) (pow-suc 16 n) h in
    let down : x / 16 < 16 ^ n = omega arith in
    let whole : 16 * (x / 16) + x % 16 ≡ x = omega arith in
    number-last (digits_of n (x / 16)) 0 (digit_of (x % 16))
    ∙ ap₂ (λ (a d : ℕ). 16 * a + d) (number-back n (x / 16) down) (digit-back (x % 16) (omega arith))
    ∙ whole

-- octets written as hexadecimal read back
pub octets-back : (s : List ℕ) → Octets s → octets_of (hex_of s) ≡ s
octets-back [] o = refl
octets-back (x ∷ s) o =
    let b : x < 256 = o.below 0 in
    let whole : 16 * (x / 16 % 16) + x % 16 ≡ x = omega arith in
    let head : 16 * digit (digit_of (x / 16 % 16)) + digit (digit_of (x % 16)) ≡ x =
    ap₂ (λ (a d : ℕ). 16 * a + d) (digit-back (x / 16 % 16) (omega arith)) (digit-back (x % 16) (omega arith))
    ∙ whole in
    ap₂ ◌∷◌ head (octets-back s (record { below = λ k. o.below (suc k) }))

is_digit : (d : ℕ) → d < 16 → ltb (digit (digit_of d)) 16 ≡ true
is_digit d h = lt-ltb (digit (digit_of d)) 16 (omega (arith, digit-back d h))

hex-append : (s t : List ℕ) → is_hex (s ++ t) ≡ (is_hex s && is_hex t)
hex-append [] t = refl
hex-append (x ∷ s) t =
    ap (λ (b : Bool). ltb (digit x) 16 && b) (hex-append s t) ∙ sym (and_assoc (ltb (digit x) 16) (is_hex s) (is_hex t))

-- the digits of a number are hexadecimal
pub digits-hex : (n x : ℕ) → is_hex (digits_of n x) ≡ true
digits-hex zero x = refl
digits-hex (suc n) x =
    hex-append (digits_of n (x / 16)) (digit_of (x % 16) ∷ [])
    ∙ ap₂ (λ (a b : Bool). a && (b && true)) (digits-hex n (x / 16)) (is_digit (x % 16) (omega arith))

-- the digits of octets are hexadecimal
pub octets-hex : (s : List ℕ) → is_hex (hex_of s) ≡ true
octets-hex [] = refl
octets-hex (x ∷ s) = hex-append (digits_of 2 x) (hex_of s) ∙ ap₂ ◌&&◌ (digits-hex 2 x) (octets-hex s)
