-- The word, the common fields, and the others.
use Rattle.answer.proofs.Rooms.{◌▹◌}
use Rattle.scenario_wire_words.specs.Words.{md_words}
use Rattle.scenario_wire_words.proofs.MdHeaderShown.put.Goals as goal

pub returns : goal.returns
unfolding md_words
returns c = c.word.ensures ▹ c.put_common.ensures ▹ c.put_session.ensures
