-- The shapes of scalar types: how long a scalar is at most.
-- Assumes nothing.
use Prim.Native.Nat.{ℕ, zero, suc, ◌≤◌}
use native.Mathlib.Omega.{arith}
use Rattle.scalars.specs.declared.Shape.{Shape}
use Rattle.scalars.specs.declared.Shape.TheVariants.{Empty, One, Two, Four, Eight, FourTwo, FourFour}
use Rattle.scalars.specs.Scalars.{size, parts, shape_parts}

-- a scalar has at most eight octets
pub size_small : (k : ℕ) → size (shape_parts k) ≤ 8
size_small zero = omega arith
size_small (suc zero) = omega arith
size_small (suc (suc zero)) = omega arith
size_small (suc (suc (suc zero))) = omega arith
size_small (suc (suc (suc (suc zero)))) = omega arith
size_small (suc (suc (suc (suc (suc zero))))) = omega arith
size_small (suc (suc (suc (suc (suc (suc zero)))))) = omega arith
size_small (suc (suc (suc (suc (suc (suc (suc k))))))) = omega arith

-- and so has one of any shape, since each has its number
pub shape_small : (k : Shape) → size (parts k) ≤ 8
shape_small Empty = size_small 0
shape_small One = size_small 1
shape_small Two = size_small 2
shape_small Four = size_small 3
shape_small Eight = size_small 4
shape_small FourTwo = size_small 5
shape_small FourFour = size_small 6
