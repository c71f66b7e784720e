-- Digits read one after the other: laws over the list.
-- Assumes nothing.
use mathlib.Core.Path.{◌≡◌, refl, sym, ap, ◌∙◌}
use mathlib.Core.Bool.{Bool, true, false, ◌&&◌, and_assoc, and-true, true≢false}
use mathlib.Core.List.{List, [], ◌∷◌}
use Prim.Native.Nat.{ℕ, zero, suc, ◌+◌, ◌*◌, ◌/◌, ◌^◌, ◌<◌, ◌≤◌, max}
use native.Mathlib.Nat.{pow-suc, pow-le-pow_right}
use native.Mathlib.Numerals.{add-one}
use native.Mathlib.Omega.{arith}
use borrow.Author.Tests.{ltb-true, ltb-false, lt-ltb, le-ltb}
use lib.Dec.{ltb}
use lib.ListN.{length, get_or, drop}
use lib.Seq.{drop-cons}
use Rattle.std.specs.List.{fold}
use Rattle.hexadecimal.specs.Hex.{digit, is_hex, number, octets_of}

pub and_left : (a b : Bool) → (a && b) ≡ true → a ≡ true
and_left true b e = refl
and_left false b e = e

pub and_right : (a b : Bool) → (a && b) ≡ true → b ≡ true
and_right true b e = e
and_right false b e = absurd (true≢false (sym e))

-- the greater of two is below a limit where both are
below-max : (a b n : ℕ) → ltb (max a b) n ≡ (ltb a n && ltb b n)
below-max a b n = go (ltb a n) (ltb b n) refl refl
  where
    go : (p q : Bool) → ltb a n ≡ p → ltb b n ≡ q → ltb (max a b) n ≡ (p && q)
    go true true e f = lt-ltb (max a b) n (omega (arith, ltb-true a n e, ltb-true b n f))
    go true false e f = le-ltb (max a b) n (omega (arith, ltb-false b n f))
    go false q e f = le-ltb (max a b) n (omega (arith, ltb-false a n e))

-- the greatest value is a digit's where every octet is a digit
pub hex-folded : (s : List ℕ) (w : ℕ) → ltb (fold (λ (a x : ℕ). max a (digit x)) w s) 16 ≡ (ltb w 16 && is_hex s)
hex-folded [] w = sym (and-true (ltb w 16))
hex-folded (x ∷ s) w =
    hex-folded s (max w (digit x))
    ∙ ap (λ (b : Bool). b && is_hex s) (below-max w (digit x) 16)
    ∙ and_assoc (ltb w 16) (ltb (digit x) 16) (is_hex s)

pub hex-at : (s : List ℕ) (i : ℕ) → is_hex s ≡ true → i < length s → digit (get_or s i 0) < 16
hex-at [] i e h = absurd (omega arith)
hex-at (x ∷ s) zero e h = ltb-true (digit x) 16 (and_left (ltb (digit x) 16) (is_hex s) e)
hex-at (x ∷ s) (suc i) e h = hex-at s i (and_right (ltb (digit x) 16) (is_hex s) e) (omega arith)

pub number_more : (s : List ℕ) (c i : ℕ) → i < length s → number c (drop i s) ≡ number 0 s
    → number (16 * c + digit (get_or s i 0)) (drop (i + 1) s) ≡ number 0 s
number_more s c i h e =
    ap (λ (j : ℕ). number (16 * c + digit (get_or s i 0)) (drop j s)) (add-one i)
    ∙ ap (number c) (sym (drop-cons s i 0 h))
    ∙ e

-- one digit more stays below one power of 16 more
pub digit-more : (c d i : ℕ) → c < 16 ^ i → d < 16 → 16 * c + d < 16 ^ (i + 1)
digit-more c d i h k = rw (add-one, pow-suc) (omega arith)

-- 16 digits fit 64 bits
pub digit-fits : (c d i : ℕ) → i < 16 → c < 16 ^ i → d < 16 → 16 * c + d < 2 ^ 64
digit-fits c d i l h k =
    let m : i + 1 ≤ 16 = omega arith in
    omega (arith, digit-more c d i h k, pow-le-pow_right {n = 16} (omega arith) m)

pub octets-length : (s : List ℕ) → length (octets_of s) ≡ length s / 2
octets-length [] = refl
octets-length (x ∷ []) = refl
octets-length (x ∷ y ∷ s) = ap suc (octets-length s) ∙ omega arith

pub octets-at : (s : List ℕ) (i : ℕ) → 2 * i + 1 < length s
    → get_or (octets_of s) i 0 ≡ 16 * digit (get_or s (2 * i) 0) + digit (get_or s (2 * i + 1) 0)
octets-at [] i h = absurd (omega arith)
octets-at (x ∷ []) i h = absurd (omega arith)
octets-at (x ∷ y ∷ s) zero h = refl
octets-at (x ∷ y ∷ s) (suc i) h =
    let a : suc (suc (2 * i)) ≡ 2 * suc i = omega arith in
    let b : suc (suc (2 * i + 1)) ≡ 2 * suc i + 1 = omega arith in
    octets-at s i (omega arith)
    ∙ ap (λ (j : ℕ). 16 * digit (get_or (x ∷ y ∷ s) j 0) + digit (get_or s (2 * i + 1) 0)) a
    ∙ ap (λ (j : ℕ). 16 * digit (get_or (x ∷ y ∷ s) (2 * suc i) 0) + digit (get_or (x ∷ y ∷ s) j 0)) b
