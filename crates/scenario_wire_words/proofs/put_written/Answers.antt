-- The word, the number and the target.
use Rattle.answer.proofs.Rooms.{◌▹◌}
use Rattle.scenario_wire_words.proofs.put_written.Goals as goal

pub returns-in-Ok : goal.returns-in-Ok
returns-in-Ok g c = rw c.in-Ok.is (c.word_of.ensures ▹ c.octets.ensures)
