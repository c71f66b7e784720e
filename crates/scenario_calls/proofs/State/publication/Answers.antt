-- What the line leaves is what its call does.
use Rattle.scenario_calls.proofs.Calls.{published}
use Rattle.scenario_calls.proofs.State.publication.Goals as goal

pub returns : goal.returns
returns c = published c.args.self.now c.args.s.now c.answer.ensures
