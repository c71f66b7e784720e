-- The listener's number, and the line's end behind it.
use mathlib.Core.Path.{sym, ◌∙◌}
use Rattle.line.proofs.Fields.{number_none, number_some, read_value, end_none, end_some}
use Rattle.scenario_md.specs.Lines.{unlisten_asked}
use Rattle.scenario_md.proofs.Read.{asks_nothing}
use Rattle.scenario_md.proofs.unlisten.Goals as goal

pub returns-in_err-k : goal.returns-in_err-k
unfolding unlisten_asked
returns-in_err-k c =
    asks_nothing c.from_residual.ensures (number_none _ c.behind-fields.ensures c.in_err-k.ensures)

pub returns-in_err-end : goal.returns-in_err-end
unfolding unlisten_asked
returns-in_err-end c =
    asks_nothing c.from_residual-in_err-end.ensures
    (number_some _ c.behind-fields.ensures c.in_ok-k.ensures ∙ end_none _ _ c.in_err-end.ensures)

pub returns : goal.returns
unfolding unlisten_asked
returns c =
    rw (read_value c.in_ok-k.ensures)
    (sym (number_some _ c.behind-fields.ensures c.in_ok-k.ensures ∙ end_some _ _ c.in_ok-end.ensures))
