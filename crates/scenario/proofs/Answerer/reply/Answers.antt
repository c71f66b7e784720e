-- Behind a piece the place is within the room.
use Rattle.std.proofs.Common.{◌≡◌, length, arith, rules}
use Rattle.answer.proofs.Rooms.{inside, same_length}
use Rattle.scenario.proofs.Answerer.reply.Goals as goal

pub invariant_of-self : goal.invariant_of-self
invariant_of-self c =
    let n : 164832 ≡ length c.args.self.now.out = search rules in
    let digits = same_length c.digits.ensures in
    let answer = same_length c.answer.ensures.fills in
    let text = same_length c.text.ensures in
    record { within = omega (arith, inside c.text.ensures) }
