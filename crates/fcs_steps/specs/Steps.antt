-- The steps of the frame check's register: CRC-32 of IEEE 802.3, reflected polynomial EDB88320.
use Rattle.std.specs.Prelude.{ℕ, zero, suc, ◌/◌, ◌%◌, cond, eqb}
use Rattle.std.specs.Int.Bits.{bit_xor}

-- one step of the register: half of it, and the polynomial where the bit that falls out is 1
unfoldable pub bit : ℕ → ℕ
bit c = cond (eqb (c % 2) 0) (c / 2) (bit_xor (c / 2) 0xEDB8_8320)

-- n steps
unfoldable pub bits : ℕ → ℕ → ℕ
bits zero c = c
bits (suc n) c = bits n (bit c)
