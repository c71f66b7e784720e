-- A number in n octets reads back as itself, and octets read as a number write the same octets again: for every width, both orders.
-- Assumes nothing.
use mathlib.Core.Path.{◌≡◌, refl, sym, ap, ap₂, ◌∙◌, subst}
use mathlib.Core.List.{List, [], ◌∷◌, ◌++◌, reverse, reverse-cons, reverse-reverse}
use Prim.Native.Nat.{ℕ, zero, suc, ◌+◌, ◌*◌, ◌/◌, ◌%◌, ◌^◌, ◌<◌}
use native.Mathlib.Nat.{pow-suc}
use native.Mathlib.Omega.{arith}
use lib.ListN.{length, get_or, take, drop, length-reverse}
use lib.Seq.{get_or-drop}
use Rattle.octets.specs.Octets.{Octets, little, big, little_of, big_of}

pub length-little : (n x : ℕ) → length (little_of n x) ≡ n
length-little zero x = refl
length-little (suc n) x = ap suc (length-little n (x / 256))

pub length-big : (n x : ℕ) → length (big_of n x) ≡ n
length-big n x = length-reverse (little_of n x) ∙ length-little n x

pub little-back : (n x : ℕ) → x < 256 ^ n → little (little_of n x) ≡ x
little-back zero x h = omega arith
little-back (suc n) x h =
    let up : x < 256 ^ n * 256 = subst (λ (m : ℕ). x < m) (pow-suc 256 n) h in
    let down : x / 256 < 256 ^ n = omega arith in
    let whole : x % 256 + 256 * (x / 256) ≡ x = omega arith in
    ap (λ (y : ℕ). x % 256 + 256 * y) (little-back n (x / 256) down) ∙ whole

split : (x : ℕ) (s : List ℕ) → x < 256 → Octets s → (k : ℕ) → get_or (x ∷ s) k 0 < 256
split x s h o zero = h
split x s h o (suc k) = o.below k

pub tail-octets : (x : ℕ) (s : List ℕ) → Octets (x ∷ s) → Octets s
tail-octets x s o = record { below = λ k. o.below (suc k) }

pub little-again : (s : List ℕ) → Octets s → little_of (length s) (little s) ≡ s
little-again [] o = refl
little-again (x ∷ s) o =
    let b : x < 256 = o.below 0 in
    let low : (x + 256 * little s) % 256 ≡ x = omega arith in
    let high : (x + 256 * little s) / 256 ≡ little s = omega arith in
    ap₂ (λ (a y : ℕ). a ∷ little_of (length s) y) low high ∙ ap (◌∷◌ x) (little-again s (tail-octets x s o))

-- a part of a list of octets is one too
pub octets-take : (n : ℕ) (s : List ℕ) → Octets s → Octets (take n s)
octets-take n s o = record { below = below n s o }
  where
    below : (n : ℕ) (s : List ℕ) → Octets s → (k : ℕ) → get_or (take n s) k 0 < 256
    below zero s o k = omega arith
    below (suc n) [] o k = omega arith
    below (suc n) (x ∷ s) o zero = o.below 0
    below (suc n) (x ∷ s) o (suc k) = below n s (tail-octets x s o) k

pub octets-drop : (n : ℕ) (s : List ℕ) → Octets s → Octets (drop n s)
octets-drop n s o = record { below = λ k. rw get_or-drop (o.below (n + k)) }

none : Octets []
none = record { below = λ k. omega arith }

pub octets-append : (s t : List ℕ) → Octets s → Octets t → Octets (s ++ t)
octets-append [] t o p = p
octets-append (x ∷ s) t o p =
    let r : Octets (s ++ t) = octets-append s t (tail-octets x s o) p in
    record { below = split x (s ++ t) (o.below 0) r }

pub octets-reverse : (s : List ℕ) → Octets s → Octets (reverse s)
octets-reverse [] o = o
octets-reverse (x ∷ s) o =
    let last : Octets (x ∷ []) = record { below = split x [] (o.below 0) none } in
    subst Octets (sym (reverse-cons x s)) (octets-append (reverse s) (x ∷ []) (octets-reverse s (tail-octets x s o)) last)

-- what n octets write is below 256 ^ n
pub little-below : (s : List ℕ) → Octets s → little s < 256 ^ length s
little-below [] o = omega arith
little-below (x ∷ s) o =
    let b : x < 256 = o.below 0 in
    let h : little s < 256 ^ length s = little-below s (tail-octets x s o) in
    let m : x + 256 * little s < 256 ^ length s * 256 = omega arith in
    subst (λ (n : ℕ). x + 256 * little s < n) (sym (pow-suc 256 (length s))) m

pub big-below : (s : List ℕ) → Octets s → big s < 256 ^ length s
big-below s o = subst (λ (n : ℕ). big s < 256 ^ n) (length-reverse s) (little-below (reverse s) (octets-reverse s o))

pub big-back : (n x : ℕ) → x < 256 ^ n → big (big_of n x) ≡ x
big-back n x h = ap little (reverse-reverse (little_of n x)) ∙ little-back n x h

pub big-again : (s : List ℕ) → Octets s → big_of (length s) (big s) ≡ s
big-again s o =
    ap (λ (n : ℕ). reverse (little_of n (big s))) (sym (length-reverse s))
    ∙ ap reverse (little-again (reverse s) (octets-reverse s o))
    ∙ reverse-reverse s
