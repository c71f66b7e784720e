-- A frame that is written as a line reads back: the line is of the form, its fields are the frame's, its octets are the datagram.
-- Assumes nothing.
use mathlib.Core.Path.{◌≡◌, refl, ap, ap₂, ◌∙◌}
use mathlib.Core.Bool.{Bool, true, cond, ◌&&◌}
use mathlib.Core.List.{List, [], ◌∷◌}
use Prim.Native.Nat.{ℕ, suc, ◌*◌, ◌%◌, ◌^◌, ◌<◌, ◌≤◌}
use native.Mathlib.Omega.{arith}
use borrow.Author.Tests.{le-leb, eq-eqb}
use lib.ListN.{length}
use Rattle.octets.specs.Octets.{Octets}
use Rattle.hexadecimal.specs.Hex.{hex_of}
use Rattle.std.specs.Prelude.{Option, Some, None}
use Rattle.capture.specs.declared.Frame.{Frame}
use Rattle.capture.specs.Frame.{digits_at, is_datagram, is_frame, datagram_of, fields_of, frame_of, line_of}
use Rattle.hexadecimal.proofs.Back.{number-back, octets-back, digits-hex, octets-hex}

hex-length : (s : List ℕ) → length (hex_of s) ≡ 2 * length s
hex-length [] = refl
hex-length (x ∷ s) = ap (λ (n : ℕ). suc (suc n)) (hex-length s) ∙ omega arith

datagram-form : (d : List ℕ) → length d ≤ 1472 → is_datagram (hex_of d) ≡ true
datagram-form d h =
    let l = hex-length d in
    rw (le-leb (length (hex_of d)) 2944 (omega arith), eq-eqb (length (hex_of d) % 2) 0 (omega arith), octets-hex d) refl

same-frame : {a b c n a' b' c' n' : ℕ} → a ≡ a' → b ≡ b' → c ≡ c' → n ≡ n' → ◌≡◌ {A = Option Frame} (Some (record { sender = a; destination = b; time = c; octets = n })) (Some (record { sender = a'; destination = b'; time = c'; octets = n' }))
same-frame e f g h = cc

module _ (sender destination time : ℕ) (datagram : List ℕ) (s : sender < 2 ^ 32) (d : destination < 2 ^ 32) (t : time < 2 ^ 64) (o : Octets datagram) (l : length datagram ≤ 1472) where
  line-form : is_frame (line_of sender destination time datagram) ≡ true
  line-form =
      let a : digits_at 8 0 (line_of sender destination time datagram) ≡ true = digits-hex 8 sender in
      let b : digits_at 8 9 (line_of sender destination time datagram) ≡ true = digits-hex 8 destination in
      let c : digits_at 16 18 (line_of sender destination time datagram) ≡ true = digits-hex 16 time in
      ap₂ ◌&&◌ (ap₂ ◌&&◌ a b) (ap₂ ◌&&◌ c (datagram-form datagram l))

  pub written-datagram-back : datagram_of (line_of sender destination time datagram) ≡ datagram
  written-datagram-back = octets-back datagram o

  pub written-frame-back : frame_of (line_of sender destination time datagram) ≡ Some (record { sender = sender; destination = destination; time = time; octets = length datagram })
  written-frame-back =
      let e = line_of sender destination time datagram in
      ap (λ (b : Bool). cond b (Some (fields_of e)) None) line-form
      ∙ same-frame (number-back 8 sender s) (number-back 8 destination d) (number-back 16 time t) (ap length written-datagram-back)
