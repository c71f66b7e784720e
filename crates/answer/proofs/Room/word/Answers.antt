-- A space and the piece behind it.
use Rattle.answer.proofs.Rooms.{behind}
use Rattle.answer.proofs.Room.word.Goals as goal

pub returns : goal.returns
returns c = behind c.text.ensures c.text-2.ensures
