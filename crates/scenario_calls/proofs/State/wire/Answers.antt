-- No line of these verbs changes the state.
use mathlib.Core.Path.{refl}
use Rattle.scenario_calls.specs.Calls.{wire_effect}
use Rattle.scenario_calls.proofs.State.wire.Goals as goal

pub returns : goal.returns
unfolding wire_effect
returns c = record { words = c.answer.ensures; state = refl }
