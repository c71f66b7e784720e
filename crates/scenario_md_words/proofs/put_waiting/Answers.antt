-- The pieces one after the other.
use Rattle.answer.proofs.Rooms.{◌▹◌}
use Rattle.scenario_md_words.proofs.put_waiting.Goals as goal

pub returns : goal.returns
returns c = c.word.ensures ▹ c.octets.ensures ▹ c.word-2.ensures ▹ c.number.ensures ▹ c.number-2.ensures
