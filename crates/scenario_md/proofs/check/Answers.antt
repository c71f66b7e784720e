-- The time, and the line's end behind it.
use mathlib.Core.Path.{sym, ◌∙◌}
use Rattle.line.proofs.Fields.{number_none, number_some, read_value, end_none, end_some}
use Rattle.scenario_md.specs.Lines.{check_asked}
use Rattle.scenario_md.proofs.Read.{asks_nothing}
use Rattle.scenario_md.proofs.check.Goals as goal

pub returns-in_err-time : goal.returns-in_err-time
unfolding check_asked
returns-in_err-time c =
    asks_nothing c.from_residual.ensures (number_none _ c.behind-fields.ensures c.in_err-time.ensures)

pub returns-in_err-end : goal.returns-in_err-end
unfolding check_asked
returns-in_err-end c =
    asks_nothing c.from_residual-in_err-end.ensures
    (number_some _ c.behind-fields.ensures c.in_ok-time.ensures ∙ end_none _ _ c.in_err-end.ensures)

pub returns : goal.returns
unfolding check_asked
returns c =
    rw (read_value c.in_ok-time.ensures)
    (sym (number_some _ c.behind-fields.ensures c.in_ok-time.ensures ∙ end_some _ _ c.in_ok-end.ensures))
