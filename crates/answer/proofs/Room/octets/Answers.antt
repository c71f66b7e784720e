-- Two digits for each octet fit behind the space, or not.
use Rattle.std.proofs.Common.{◌≡◌, ◌*◌, length, refl, arith}
use Rattle.answer.specs.Answer.{octets}
use Rattle.hexadecimal.specs.Hex.{hex_of}
use Rattle.answer.proofs.Rooms.{fill_fits, fill_over, behind, inside, hex-length}
use Rattle.answer.proofs.Room.octets.Goals as goal

pub overflow_sub-self : goal.overflow_sub-self
overflow_sub-self c = inside c.text.ensures

pub put_octets-requires : goal.put_octets-requires
put_octets-requires c = omega (arith, inside c.text.ensures)

pub returns-then-s-self : goal.returns-then-s-self
unfolding octets
returns-then-s-self c =
    let s = c.args.s.now in
    let n : length (hex_of s) ≡ 2 * length s = hex-length s in
    behind c.text.ensures (fill_fits (hex_of s) (omega arith) (omega (arith, inside c.text.ensures)) c.put_octets.ensures refl)

pub returns-else-s-self : goal.returns-else-s-self
unfolding octets
returns-else-s-self c =
    let s = c.args.s.now in
    let n : length (hex_of s) ≡ 2 * length s = hex-length s in
    behind c.text.ensures (fill_over (hex_of s) (omega (arith, inside c.text.ensures)) refl refl refl)
