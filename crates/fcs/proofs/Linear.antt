-- Steps of an exclusive or are the exclusive or of the steps; so n steps of a number are those of its low n bits,
-- and the rest moved down.
-- Assumes nothing.
use mathlib.Core.Path.{◌≡◌, refl, sym, ap, ap₂, ◌∙◌}
use Prim.Native.Nat.{ℕ, zero, suc, ◌+◌, ◌*◌, ◌/◌, ◌%◌, ◌^◌, ◌<◌}
use native.Mathlib.Nat.{mod-lt, suc-add, add-zero, zero-add}
use native.Mathlib.Omega.{arith}
use lib.Bits.{bit_xor, xor_comm, xor_zero_r, xor_shr, xor_mod, xor_block, xor_shifted, shifted_half, shifted_even}
use lib.Pow.{pow_pos, split}
use Rattle.fcs_steps.specs.Steps.{bit, bits}
use Rattle.fcs.proofs.Xor.{xor_assoc}

pub xor-swap : (a b c d : ℕ) → bit_xor (bit_xor a b) (bit_xor c d) ≡ bit_xor (bit_xor a c) (bit_xor b d)
xor-swap a b c d =
    xor_assoc a b (bit_xor c d)
    ∙ ap (bit_xor a) (sym (xor_assoc b c d) ∙ ap (λ (x : ℕ). bit_xor x d) (xor_comm b c) ∙ xor_assoc c b d)
    ∙ sym (xor_assoc a c (bit_xor b d))

pub xor-scaled : (k a b : ℕ) → bit_xor (a * 2 ^ k) (b * 2 ^ k) ≡ bit_xor a b * 2 ^ k
xor-scaled k a b =
    ap₂ bit_xor (sym (add-zero (a * 2 ^ k))) (sym (add-zero (b * 2 ^ k))) ∙ xor_block k a b 0 0 (pow_pos k) (pow_pos k)
    ∙ add-zero (bit_xor a b * 2 ^ k)

-- a step of a number is its half, and a step of the bit that falls out
one_out : (c d : ℕ) → d < 2 → c % 2 ≡ d → bit c ≡ bit_xor (c / 2) (bit d)
unfolding bit
one_out c zero h e = rw e (sym (xor_zero_r (c / 2)))
one_out c (suc zero) h e = rw e
one_out c (suc (suc d)) h e = absurd (omega arith)

out : (c : ℕ) → bit c ≡ bit_xor (c / 2) (bit (c % 2))
out c = one_out c (c % 2) (omega arith) refl

digit-xor : (x y : ℕ) → x < 2 → y < 2 → bit (bit_xor x y) ≡ bit_xor (bit x) (bit y)
unfolding bit
digit-xor zero y hx hy = refl
digit-xor (suc zero) zero hx hy = refl
digit-xor (suc zero) (suc zero) hx hy = refl
digit-xor (suc zero) (suc (suc y)) hx hy = absurd (omega arith)
digit-xor (suc (suc x)) y hx hy = absurd (omega arith)

bit-xor : (a b : ℕ) → bit (bit_xor a b) ≡ bit_xor (bit a) (bit b)
bit-xor a b =
    out (bit_xor a b)
    ∙ ap₂ (λ (x y : ℕ). bit_xor x (bit y)) (xor_shr a b 1) (xor_mod a b 1)
    ∙ ap (bit_xor (bit_xor (a / 2) (b / 2))) (digit-xor (a % 2) (b % 2) (omega arith) (omega arith))
    ∙ xor-swap (a / 2) (b / 2) (bit (a % 2)) (bit (b % 2))
    ∙ sym (ap₂ bit_xor (out a) (out b))

pub bits-xor : (n a b : ℕ) → bits n (bit_xor a b) ≡ bit_xor (bits n a) (bits n b)
unfolding bits
bits-xor zero a b = refl
bits-xor (suc n) a b = ap (bits n) (bit-xor a b) ∙ bits-xor n (bit a) (bit b)

-- steps, and then more of them
pub bits-add : (m n c : ℕ) → bits (m + n) c ≡ bits n (bits m c)
unfolding bits
bits-add zero n c = ap (λ (k : ℕ). bits k c) (zero-add n)
bits-add (suc m) n c = ap (λ (k : ℕ). bits k c) (suc-add m n) ∙ bits-add m n (bit c)

-- n steps on a number with n zeros below move it down
pub bits-down : (n h : ℕ) → bits n (h * 2 ^ n) ≡ h
unfolding bits bit
bits-down zero h = omega arith
bits-down (suc n) h = rw (shifted_even, shifted_half) (bits-down n h)

-- n steps of a number: those of its low n bits, and the rest moved down
pub apart : (n x : ℕ) → bits n x ≡ bit_xor (bits n (x % 2 ^ n)) (x / 2 ^ n)
apart n x =
    ap (bits n) (sym (split x n) ∙ sym (xor_shifted (x / 2 ^ n) n (x % 2 ^ n) (mod-lt x (pow_pos n))))
    ∙ bits-xor n (x / 2 ^ n * 2 ^ n) (x % 2 ^ n)
    ∙ ap (λ (y : ℕ). bit_xor y (bits n (x % 2 ^ n))) (bits-down n (x / 2 ^ n))
    ∙ xor_comm (x / 2 ^ n) (bits n (x % 2 ^ n))
