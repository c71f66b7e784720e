-- A record in use: its fields one after the other.
use mathlib.Core.Path.{sym, ◌∙◌}
use Rattle.answer.proofs.Rooms.{◌▹◌}
use Rattle.scenario_pd_words.proofs.put_record.Goals as goal

pub returns-then-is_used : goal.returns-then-is_used
returns-then-is_used c =
    rw (sym c.is_used.ensures ∙ c.if-is_used.true)
    (c.word.ensures
    ▹ c.put_granted.ensures
    ▹ (rw c.state.ensures at c.put_state.ensures)
    ▹ c.put_last.ensures
    ▹ c.number.ensures
    ▹ (rw c.from.ensures at c.decimal.ensures))
