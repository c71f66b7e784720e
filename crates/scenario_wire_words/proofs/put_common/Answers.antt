-- One number after the other.
use Rattle.answer.proofs.Rooms.{◌▹◌}
use Rattle.scenario_wire_words.specs.Words.{common_words}
use Rattle.scenario_wire_words.proofs.put_common.Goals as goal

pub returns : goal.returns
unfolding common_words
returns c =
    c.number.ensures ▹ c.number-2.ensures ▹ c.number-3.ensures ▹ c.number-4.ensures
    ▹ c.number-5.ensures ▹ c.number-6.ensures ▹ c.number-7.ensures
