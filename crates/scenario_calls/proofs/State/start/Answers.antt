-- Slots and statistics are those of their crates; the octets of listeners and sessions are zeros.
use Rattle.scenario_calls.proofs.Calls.{started}
use Rattle.scenario_calls.proofs.State.start.Goals as goal

pub returns : goal.returns
returns c = started c.start.ensures c.none.ensures
