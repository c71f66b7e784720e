-- What the line leaves is what its call does.
use Rattle.scenario_calls.proofs.Calls.{messaged}
use Rattle.scenario_calls.proofs.State.message_data.Goals as goal

pub returns : goal.returns
returns c = messaged c.args.self.now c.args.s.now c.answer.ensures
