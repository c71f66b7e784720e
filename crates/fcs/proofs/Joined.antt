-- The register over two portions joined is that over the second, begun from that over the first.
-- Assumes nothing.
use mathlib.Core.Path.{◌≡◌, refl, ap, sym, ◌∙◌}
use mathlib.Core.List.{List, [], ◌∷◌, ◌++◌}
use Prim.Native.Nat.{ℕ, zero, suc, ◌+◌, ◌*◌, ◌<◌}
use lib.Bits.{bit_xor}
use native.Mathlib.Omega.{arith}
use lib.ListN.{get_or, take, drop, take-append-drop}
use lib.Seq.{drop-drop}
use Rattle.std.specs.List.{fold}
use Rattle.std.specs.Simd.{first_chunks}
use Rattle.fcs_steps.specs.Steps.{bits}
use Rattle.fcs.specs.Fcs.{register}

pub register-append : (c : ℕ) (a b : List ℕ) → register c (a ++ b) ≡ register (register c a) b
register-append c [] b = refl
register-append c (x ∷ a) b = register-append (bits 8 (bit_xor c x)) a b

-- the first n of a list are one portion, the others the second
pub register-split : (c n : ℕ) (s : List ℕ) → register c s ≡ register (register c (take n s)) (drop n s)
register-split c n s = ap (register c) (sym (take-append-drop n s)) ∙ register-append c (take n s) (drop n s)

-- the register is a fold over the octets
pub register-fold : (c : ℕ) (s : List ℕ) → fold (λ (a x : ℕ). bits 8 (bit_xor a x)) c s ≡ register c s
register-fold c [] = refl
register-fold c (x ∷ s) = register-fold (bits 8 (bit_xor c x)) s

-- the i-th of the chunks of n octets
pub chunk_at : (n k i : ℕ) (s : List ℕ) → i < k → get_or (first_chunks n k s) i [] ≡ take n (drop (i * n) s)
chunk_at n zero i s h = absurd (omega arith)
chunk_at n (suc k) zero s h = let e : 0 ≡ 0 * n = omega arith in ap (λ (m : ℕ). take n (drop m s)) e
chunk_at n (suc k) (suc i) s h =
    let e : n + i * n ≡ suc i * n = omega arith in
    chunk_at n k i (drop n s) (omega arith) ∙ ap (take n) (drop-drop (i * n) n s ∙ ap (λ (m : ℕ). drop m s) e)
