-- 64 steps of each half octet of a number, joined by exclusive or, are 64 steps of the number.
-- Assumes nothing.
use mathlib.Core.Path.{◌≡◌, sym, ap, ◌∙◌, subst}
use Prim.Native.Nat.{ℕ, zero, suc, ◌+◌, ◌*◌, ◌/◌, ◌%◌, ◌^◌, ◌<◌}
use native.Mathlib.Nat.{mod-lt, mul_assoc, zero-mul}
use native.Mathlib.Omega.{arith}
use lib.Bits.{bit_xor, xor_comm, xor_shifted}
use lib.Arith.{mod-mul}
use lib.Pow.{pow-add, pow_pos, shr_lt}
use Rattle.fcs_steps.specs.Steps.{bit, bits}
use Rattle.fcs.proofs.Linear.{xor-scaled, bits-xor, bits-add, bits-down, apart}

-- 64 steps of the low half octet of x, at place j
abbrev half : ℕ → ℕ → ℕ
half j x = bits 64 (x % 16 * 2 ^ (4 * j))

-- those of the m + 1 half octets of x, the lowest at place j
abbrev pub looked : ℕ → ℕ → ℕ → ℕ
looked zero j x = half j x
looked (suc m) j x = bit_xor (half j x) (looked m (j + 1) (x / 16))

-- a number moved up by j half octets, its lowest half octet apart
lowest : (j x : ℕ) → x * 2 ^ (4 * j) ≡ bit_xor (x % 16 * 2 ^ (4 * j)) (x / 16 * 2 ^ (4 * (j + 1)))
lowest j x =
    let one : 4 * (j + 1) ≡ 4 + 4 * j = omega arith in
    let up : x / 16 * 2 ^ (4 * (j + 1)) ≡ x / 16 * 2 ^ 4 * 2 ^ (4 * j) =
    ap (λ (n : ℕ). x / 16 * 2 ^ n) one ∙ ap (λ (n : ℕ). x / 16 * n) (pow-add 2 4 (4 * j))
    ∙ sym (mul_assoc (x / 16) (2 ^ 4) (2 ^ (4 * j))) in
    let all : x / 16 * 2 ^ 4 + x % 16 ≡ x = omega arith in
    let whole : bit_xor (x / 16 * 2 ^ 4) (x % 16) ≡ x = xor_shifted (x / 16) 4 (x % 16) (omega arith) ∙ all in
    sym
    (ap (bit_xor (x % 16 * 2 ^ (4 * j))) up ∙ xor-scaled (4 * j) (x % 16) (x / 16 * 2 ^ 4)
    ∙ ap (λ (n : ℕ). n * 2 ^ (4 * j)) (xor_comm (x % 16) (x / 16 * 2 ^ 4) ∙ whole))

-- the half octets of x are all of x
pub looks : (m j x : ℕ) → x < 2 ^ (4 * suc m) → looked m j x ≡ bits 64 (x * 2 ^ (4 * j))
looks zero j x hx = let e : x % 16 ≡ x = omega arith in ap (λ (n : ℕ). bits 64 (n * 2 ^ (4 * j))) e
looks (suc m) j x hx =
    let one : 4 * suc (suc m) ≡ 4 * suc m + 4 = omega arith in
    let up : x < 2 ^ (4 * suc m + 4) = subst (λ (n : ℕ). x < 2 ^ n) one hx in
    ap (bit_xor (half j x)) (looks m (j + 1) (x / 16) (shr_lt (4 * suc m) 4 up))
    ∙ sym (ap (bits 64) (lowest j x) ∙ bits-xor 64 (x % 16 * 2 ^ (4 * j)) (x / 16 * 2 ^ (4 * (j + 1))))

-- the low k half octets of x, and the next one
pub one_more : (k j x : ℕ)
    → bit_xor (bits 64 (x % 2 ^ (4 * k) * 2 ^ (4 * j))) (bits 64 (x / 2 ^ (4 * k) % 16 * 2 ^ (4 * (j + k))))
    ≡ bits 64 (x % 2 ^ (4 * (k + 1)) * 2 ^ (4 * j))
one_more k j x =
    let n : ℕ = 4 * k in
    let low : ℕ = x % 2 ^ n in
    let high : ℕ = x / 2 ^ n % 16 in
    let places : 4 * (j + k) ≡ n + 4 * j = omega arith in
    let up : high * 2 ^ (4 * (j + k)) ≡ high * 2 ^ n * 2 ^ (4 * j) =
    ap (λ (m : ℕ). high * 2 ^ m) places ∙ ap (λ (m : ℕ). high * m) (pow-add 2 n (4 * j))
    ∙ sym (mul_assoc high (2 ^ n) (2 ^ (4 * j))) in
    let more : 4 * (k + 1) ≡ 4 + n = omega arith in
    let whole : bit_xor low (high * 2 ^ n) ≡ x % 2 ^ (4 * (k + 1)) =
    xor_comm low (high * 2 ^ n)
    ∙ xor_shifted high n low (mod-lt x (pow_pos n))
    ∙ sym (ap (λ (m : ℕ). x % 2 ^ m) more ∙ ap (λ (m : ℕ). x % m) (pow-add 2 4 n)
    ∙ mod-mul x (omega arith) (pow_pos n)) in
    sym (bits-xor 64 (low * 2 ^ (4 * j)) (high * 2 ^ (4 * (j + k))))
    ∙ ap (λ (y : ℕ). bits 64 (bit_xor (low * 2 ^ (4 * j)) y)) up
    ∙ ap (bits 64) (xor-scaled (4 * j) low (high * 2 ^ n) ∙ ap (λ (y : ℕ). y * 2 ^ (4 * j)) whole)

-- 64 steps of no half octets
pub no_more : (j x : ℕ) → 0 ≡ bits 64 (x % 1 * 2 ^ (4 * j))
unfolding bits bit
no_more j x =
    let e : 0 ≡ x % 1 * 2 ^ (4 * j) =
    let z : x % 1 ≡ 0 = omega arith in sym (rw z (zero-mul (2 ^ (4 * j)))) in ap (bits 64) e

-- 8 steps of a register by the two half octets of its low octet
pub by_two : (x : ℕ) → bit_xor (bit_xor (bits 64 (x % 16 * 2 ^ 56)) (bits 64 (x / 16 % 16 * 2 ^ 60)))
    (x / 256) ≡ bits 8 x
by_two x =
    ap (λ (y : ℕ). bit_xor y (x / 256)) (one_more 1 14 x ∙ bits-add 56 8 (x % 256 * 2 ^ 56)
    ∙ ap (bits 8) (bits-down 56 (x % 256)))
    ∙ sym (apart 8 x)
