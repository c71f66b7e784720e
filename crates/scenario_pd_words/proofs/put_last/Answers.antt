-- Two numbers where a counter is held.
use borrow.Author.Tests.{ne_eqb}
use Rattle.answer.proofs.Rooms.{◌▹◌}
use Rattle.scenario_pd_words.proofs.put_last.Goals as goal

pub returns-else-l-eq0 : goal.returns-else-l-eq0
returns-else-l-eq0 c = rw (ne_eqb _ _ c.if-l-eq0.false) (c.number.ensures ▹ c.number-else-l-eq0.ensures)
