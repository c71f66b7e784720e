-- The identifier, the timeout, the time and the line's end.
use mathlib.Core.Path.{refl, sym, ◌∙◌}
use Rattle.line.proofs.Fields.{number_none, number_some, octets_none, octets_some, read_value, end_none, end_some}
use Rattle.scenario_md.specs.Lines.{call_asked}
use Rattle.scenario_md.proofs.Read.{asks_nothing}
use Rattle.scenario_md.proofs.call.Goals as goal

pub returns-in_err-id : goal.returns-in_err-id
unfolding call_asked
returns-in_err-id c =
    asks_nothing c.from_residual.ensures (octets_none 16 _ c.behind-fields.ensures c.in_err-id.ensures)

pub returns-in_err-timeout : goal.returns-in_err-timeout
unfolding call_asked
returns-in_err-timeout c =
    asks_nothing c.from_residual-in_err-timeout.ensures
    (octets_some 16 _ c.behind-fields.ensures c.in_ok-id.ensures ∙ number_none _ refl c.in_err-timeout.ensures)

pub returns-in_err-time : goal.returns-in_err-time
unfolding call_asked
returns-in_err-time c =
    asks_nothing c.from_residual-in_err-time.ensures
    (octets_some 16 _ c.behind-fields.ensures c.in_ok-id.ensures ∙ number_some _ refl c.in_ok-timeout.ensures
    ∙ number_none _ refl c.in_err-time.ensures)

pub returns-in_err-end : goal.returns-in_err-end
unfolding call_asked
returns-in_err-end c =
    asks_nothing c.from_residual-in_err-end.ensures
    (octets_some 16 _ c.behind-fields.ensures c.in_ok-id.ensures ∙ number_some _ refl c.in_ok-timeout.ensures
    ∙ number_some _ refl c.in_ok-time.ensures ∙ end_none _ _ c.in_err-end.ensures)

pub returns : goal.returns
unfolding call_asked
returns c =
    rw (read_value c.in_ok-timeout.ensures, read_value c.in_ok-time.ensures)
    (sym
    (octets_some 16 _ c.behind-fields.ensures c.in_ok-id.ensures ∙ number_some _ refl c.in_ok-timeout.ensures
    ∙ number_some _ refl c.in_ok-time.ensures ∙ end_some _ _ c.in_ok-end.ensures))
