-- A piece fits, or its end or its place lies behind the room's end.
use Rattle.std.proofs.Common.{◌+◌, ◌<◌, length, refl, arith}
use Rattle.answer.proofs.Rooms.{fill_fits, fill_over}
use Rattle.answer.proofs.Room.text.Goals.{else-self-via-then-self+else-s-self, else-self-via-else-self}
use Rattle.answer.proofs.Room.text.Goals as goal

pub returns-then-s-self : goal.returns-then-s-self
returns-then-s-self c = fill_fits c.args.s.now refl (omega arith) c.copy_into.ensures refl

pub returns-else-self : goal.returns-else-self
returns-else-self c =
    let r = c.args.self.now in
    let h : length r.octets.now < r.at + length c.args.s.now =
    elim c.else-self.branch [ else-self-via-then-self+else-s-self w ↦ omega arith | else-self-via-else-self w ↦ omega arith ] in
    fill_over c.args.s.now h refl refl refl
