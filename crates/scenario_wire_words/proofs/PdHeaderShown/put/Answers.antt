-- The word, the common fields, and one number after the other.
use Rattle.answer.proofs.Rooms.{◌▹◌}
use Rattle.scenario_wire_words.specs.Words.{pd_words}
use Rattle.scenario_wire_words.proofs.PdHeaderShown.put.Goals as goal

pub returns : goal.returns
unfolding pd_words
returns c =
    c.word.ensures ▹ c.put_common.ensures ▹ c.number.ensures ▹ c.number-2.ensures ▹ c.number-3.ensures
