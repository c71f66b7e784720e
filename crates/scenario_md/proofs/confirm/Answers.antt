-- The session's number, the time and the line's end.
use mathlib.Core.Path.{refl, sym, ◌∙◌}
use Rattle.line.proofs.Fields.{number_none, number_some, read_value, end_none, end_some}
use Rattle.scenario_md.specs.Lines.{confirm_asked}
use Rattle.scenario_md.proofs.Read.{asks_nothing}
use Rattle.scenario_md.proofs.confirm.Goals as goal

pub returns-in_err-k : goal.returns-in_err-k
unfolding confirm_asked
returns-in_err-k c =
    asks_nothing c.from_residual.ensures (number_none _ c.behind-fields.ensures c.in_err-k.ensures)

pub returns-in_err-number : goal.returns-in_err-number
unfolding confirm_asked
returns-in_err-number c =
    asks_nothing c.from_residual-in_err-number.ensures
    (number_some _ c.behind-fields.ensures c.in_ok-k.ensures ∙ number_none _ refl c.in_err-number.ensures)

pub returns-in_err-end : goal.returns-in_err-end
unfolding confirm_asked
returns-in_err-end c =
    asks_nothing c.from_residual-in_err-end.ensures
    (number_some _ c.behind-fields.ensures c.in_ok-k.ensures ∙ number_some _ refl c.in_ok-number.ensures
    ∙ end_none _ _ c.in_err-end.ensures)

pub returns : goal.returns
unfolding confirm_asked
returns c =
    rw (read_value c.in_ok-k.ensures)
    (sym
    (number_some _ c.behind-fields.ensures c.in_ok-k.ensures ∙ number_some _ refl c.in_ok-number.ensures
    ∙ end_some _ _ c.in_ok-end.ensures))
