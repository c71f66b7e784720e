-- The pieces one after the other.
use Rattle.answer.proofs.Rooms.{◌▹◌}
use Rattle.scenario_calls.proofs.counters.put_statistics.Goals as goal

pub returns : goal.returns
returns c = c.put_counters.ensures ▹ c.put_all.ensures ▹ c.put_counters-2.ensures ▹ c.put_all-2.ensures
