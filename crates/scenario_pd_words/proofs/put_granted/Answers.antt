-- The fields one after the other.
use Rattle.answer.proofs.Rooms.{◌▹◌}
use Rattle.scenario_pd_words.proofs.put_granted.Goals as goal

pub returns : goal.returns
returns c =
    c.number.ensures ▹ c.number-2.ensures ▹ c.number-3.ensures ▹ c.number-4.ensures ▹ c.number-5.ensures
    ▹ (rw c.from.ensures at c.decimal.ensures)
