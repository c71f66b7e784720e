-- The digits fit behind the space, or not.
use Rattle.std.proofs.Common.{◌≡◌, length, refl, arith}
use Rattle.answer.specs.Answer.{number}
use Rattle.hexadecimal.specs.Hex.{digits_of}
use Rattle.hexadecimal.proofs.Written.{digits-length}
use Rattle.answer.proofs.Rooms.{fill_fits, fill_over, behind, inside}
use Rattle.answer.proofs.Room.digits_of.Goals as goal

pub overflow_sub-self : goal.overflow_sub-self
overflow_sub-self c = inside c.text.ensures

pub put_number-requires : goal.put_number-requires
put_number-requires c = omega (arith, inside c.text.ensures)

pub returns-then-width-self : goal.returns-then-width-self
unfolding number
returns-then-width-self c =
    let a = c.args in
    let n : length (digits_of a.width a.x) ≡ a.width = digits-length a.width a.x in
    behind c.text.ensures (fill_fits (digits_of a.width a.x) (omega arith) (omega (arith, inside c.text.ensures)) c.put_number.ensures refl)

pub returns-else-width-self : goal.returns-else-width-self
unfolding number
returns-else-width-self c =
    let a = c.args in
    let n : length (digits_of a.width a.x) ≡ a.width = digits-length a.width a.x in
    behind c.text.ensures (fill_over (digits_of a.width a.x) (omega (arith, inside c.text.ensures)) refl refl refl)
