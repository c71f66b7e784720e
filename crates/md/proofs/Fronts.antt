-- The first 112 octets of a header: their number.
-- Assumes nothing.
use mathlib.Core.Path.{◌≡◌}
use mathlib.Core.List.{List}
use Prim.Native.Nat.{ℕ}
use native.Mathlib.Omega.{arith}
use lib.ListN.{length, length-append}
use Rattle.md.specs.declared.MdHeader.{MdHeader}
use Rattle.md.specs.Md.{front_of}

pub front_length : (h : MdHeader) (session_id source destination : List ℕ) (n : ℕ) → length session_id ≡ 16 → length source ≡ 32 → length destination ≡ 32
    → length (front_of h session_id source destination n) ≡ 112
front_length h session_id source destination n i s d = simp length-append (omega arith)
