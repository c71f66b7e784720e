-- The frame check: CRC-32 of IEEE 802.3. Start FFFFFFFF, eight steps for each octet, result inverted.
use Rattle.std.specs.Prelude.{ℕ, ◌-◌, List, [], ◌∷◌}
use Rattle.std.specs.Int.Bits.{bit_xor}
use Rattle.fcs_steps.specs.Steps.{bits}

-- the register begun at c, after the octets of a list
abbrev pub register : ℕ → List ℕ → ℕ
register c [] = c
register c (x ∷ s) = register (bits 8 (bit_xor c x)) s

-- the frame check of a list of octets
unfoldable pub crc32 : List ℕ → ℕ
crc32 s = 0xFFFF_FFFF - register 0xFFFF_FFFF s
