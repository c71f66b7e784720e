-- Bounds on what the families fix.
-- Assumes nothing.
use Prim.Native.Nat.{◌≤◌}
use native.Mathlib.Omega.{arith}
use Rattle.telegram.specs.Telegram.{header_size, dataset_limit}
use Rattle.telegram.specs.declared.Family.{Family}
use Rattle.telegram.specs.declared.Family.TheVariants.{Pd, Md}

pub record Bounds (f : Family) : Type 0 where
  pub least : 40 ≤ header_size f
  pub most : header_size f ≤ 116
  pub limit : dataset_limit f ≤ 65388

pub bounds : (f : Family) → Bounds f
bounds Pd = record { least = omega arith; most = omega arith; limit = omega arith }
bounds Md = record { least = omega arith; most = omega arith; limit = omega arith }
