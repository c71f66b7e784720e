-- Two's complement of 32 bits: reading bits as a signed number and the bits of a signed number undo each other.
-- Assumes nothing.
use mathlib.Core.Path.{◌≡◌, refl, sym, ap, ◌∙◌, subst}
use mathlib.Core.Bool.{Bool, true, false, cond, true≢false}
use Prim.Native.Nat.{ℕ, suc, ◌-◌, ◌^◌, ◌<◌, ◌≤◌}
use native.Mathlib.Omega.{arith}
use lib.Dec.{ltb}
use lib.IntN.{ℤ, pos, negsuc}
use lib.Signed.{lt_z}
use mir.Syntax.{w32}
use mir.Val.{SFits, of_z, to_z}
use mir.Facts.{to_z-of_z}
use borrow.Author.Tests.{ltb-true, lt-ltb, le-ltb}
use Rattle.octets.specs.Octets.{signed, unsigned}

low : (n : ℕ) → n < 2 ^ 31 → to_z w32 n ≡ pos n
low n h = rw (lt-ltb n (2 ^ 31) h)

high : (n : ℕ) → 2 ^ 31 ≤ n → to_z w32 n ≡ negsuc (2 ^ 32 - suc n)
high n h = rw (le-ltb n (2 ^ 31) h)

below : (x : ℤ) → SFits w32 x → lt_z x (pos 0) ≡ true → to_z w32 (0xFFFF_FFFF - of_z w32 x) ≡ pos (0xFFFF_FFFF - unsigned x)
below (pos n) f e = absurd (omega (arith, ltb-true n 0 e))
below (negsuc n) f e =
    let b : n < 2 ^ 31 = f.sfits in
    let m : 0xFFFF_FFFF - (2 ^ 32 - suc n) ≡ n = omega arith in
    let k : 0xFFFF_FFFF - (0xFFFF_FFFF - n) ≡ n = omega arith in
    ap (to_z w32) m ∙ low n b ∙ ap pos (sym k)

above : (x : ℤ) → SFits w32 x → lt_z x (pos 0) ≡ false → x ≡ pos (unsigned x)
above (pos n) f e = refl
above (negsuc n) f e = absurd (true≢false e)

pub unsigned-fits : (x : ℤ) → SFits w32 x → unsigned x < 2 ^ 32
unsigned-fits (pos n) f = omega (arith, f.sfits)
unsigned-fits (negsuc n) f = omega arith

-- the complement of a negative number
pub negative : (x : ℤ) → SFits w32 x → lt_z (to_z w32 (of_z w32 x)) (pos 0) ≡ true → to_z w32 (0xFFFF_FFFF - of_z w32 x) ≡ pos (0xFFFF_FFFF - unsigned x)
negative x f e = below x f (subst (λ (z : ℤ). lt_z z (pos 0) ≡ true) (to_z-of_z f) e)

pub not_negative : (x : ℤ) → SFits w32 x → lt_z (to_z w32 (of_z w32 x)) (pos 0) ≡ false → to_z w32 (of_z w32 x) ≡ pos (unsigned x)
not_negative x f e = to_z-of_z f ∙ above x f (subst (λ (z : ℤ). lt_z z (pos 0) ≡ false) (to_z-of_z f) e)

-- bits read as signed have the same bits
pub unsigned_signed : (x : ℕ) → x < 2 ^ 32 → unsigned (signed x) ≡ x
unsigned_signed x h = go (ltb x 0x8000_0000) refl
  where
    go : (b : Bool) → ltb x 0x8000_0000 ≡ b → unsigned (cond b (pos x) (negsuc (0xFFFF_FFFF - x))) ≡ x
    go true e = refl
    go false e = omega arith

-- a signed number's bits read back
pub signed-unsigned : (x : ℤ) → SFits w32 x → signed (unsigned x) ≡ x
signed-unsigned (pos n) f = rw (lt-ltb n 0x8000_0000 f.sfits)
signed-unsigned (negsuc n) f =
    let b : n < 2 ^ 31 = f.sfits in
    let m : 0xFFFF_FFFF - (0xFFFF_FFFF - n) ≡ n = omega arith in
    rw (le-ltb (0xFFFF_FFFF - n) 0x8000_0000 (omega arith)) (ap negsuc m)
