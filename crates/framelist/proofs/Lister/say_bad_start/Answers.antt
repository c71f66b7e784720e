-- Behind a piece the place is within the room.
use Rattle.answer.proofs.Rooms.{inside}
use Rattle.framelist.proofs.Lister.say_bad_start.Goals as goal

pub invariant_of-self : goal.invariant_of-self
invariant_of-self c = record { within = inside c.text.ensures }
