-- The last arm of a match on 0, 1, .. n - 1 is for the numbers from n on.
-- Assumes nothing.
use mathlib.Core.Path.{◌≡◌}
use Prim.Native.Nat.{ℕ, zero, suc, ◌≤◌, zero-le}
use native.Mathlib.Omega.{arith}

-- x is none of the numbers below n
abbrev pub NoneBelow : ℕ → ℕ → Type 0
NoneBelow zero x = Unit
NoneBelow (suc n) x = NoneBelow n x × (x ≡ n → ⊥)

pub reaches : (n x : ℕ) → NoneBelow n x → n ≤ x
reaches zero x h = zero-le
reaches (suc n) x h = omega (arith, reaches n x h.0, h.1)
