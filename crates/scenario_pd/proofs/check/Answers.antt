-- The time, and the line's end behind it.
use mathlib.Core.Path.{sym, ap, ◌∙◌}
use Rattle.line.proofs.Fields.{number_none, end_none, end_some}
use Rattle.scenario_pd.specs.Lines.{called, check_call}
use Rattle.scenario_pd.proofs.Fields.{unasked, number_said}
use Rattle.scenario_pd.proofs.check.Goals as goal

pub returns-in_err-time : goal.returns-in_err-time
unfolding check_call
returns-in_err-time c =
    unasked c.from_residual.ensures (ap called (number_none _ c.behind-fields.ensures c.in_err-time.ensures))

pub returns-in_err-end : goal.returns-in_err-end
unfolding check_call
returns-in_err-end c =
    unasked c.from_residual-in_err-end.ensures
    (ap called (number_said _ c.behind-fields.ensures c.in_ok-time.ensures ∙ end_none _ _ c.in_err-end.ensures))

pub returns : goal.returns
unfolding check_call
returns c =
    sym
    (ap called (number_said _ c.behind-fields.ensures c.in_ok-time.ensures ∙ end_some _ _ c.in_ok-end.ensures))
