-- The pieces one after the other.
use Rattle.answer.proofs.Rooms.{◌▹◌}
use Rattle.scenario_md_words.proofs.put_requested.Goals as goal

pub returns : goal.returns
returns c = c.word_of.ensures ▹ c.decimal.ensures
