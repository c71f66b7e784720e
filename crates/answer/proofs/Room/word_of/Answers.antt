-- A word and a number behind it.
use Rattle.answer.proofs.Rooms.{◌▹◌}
use Rattle.answer.proofs.Room.word_of.Goals as goal

pub returns : goal.returns
returns c = c.word.ensures ▹ c.decimal.ensures
