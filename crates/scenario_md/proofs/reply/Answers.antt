-- The session's number, the type, the timeout, the time and the line's end.
use mathlib.Core.Path.{refl, sym, ◌∙◌}
use Rattle.line.proofs.Fields.{number_none, number_some, read_value, end_none, end_some}
use Rattle.scenario_md.specs.Lines.{reply_asked}
use Rattle.scenario_md.proofs.Read.{asks_nothing}
use Rattle.scenario_md.proofs.reply.Goals as goal

pub returns-in_err-k : goal.returns-in_err-k
unfolding reply_asked
returns-in_err-k c =
    asks_nothing c.from_residual.ensures (number_none _ c.behind-fields.ensures c.in_err-k.ensures)

pub returns-in_err-msg_type : goal.returns-in_err-msg_type
unfolding reply_asked
returns-in_err-msg_type c =
    asks_nothing c.from_residual-in_err-msg_type.ensures
    (number_some _ c.behind-fields.ensures c.in_ok-k.ensures ∙ number_none _ refl c.in_err-msg_type.ensures)

pub returns-in_err-timeout : goal.returns-in_err-timeout
unfolding reply_asked
returns-in_err-timeout c =
    asks_nothing c.from_residual-in_err-timeout.ensures
    (number_some _ c.behind-fields.ensures c.in_ok-k.ensures ∙ number_some _ refl c.in_ok-msg_type.ensures
    ∙ number_none _ refl c.in_err-timeout.ensures)

pub returns-in_err-time : goal.returns-in_err-time
unfolding reply_asked
returns-in_err-time c =
    asks_nothing c.from_residual-in_err-time.ensures
    (number_some _ c.behind-fields.ensures c.in_ok-k.ensures ∙ number_some _ refl c.in_ok-msg_type.ensures
    ∙ number_some _ refl c.in_ok-timeout.ensures ∙ number_none _ refl c.in_err-time.ensures)

pub returns-in_err-end : goal.returns-in_err-end
unfolding reply_asked
returns-in_err-end c =
    asks_nothing c.from_residual-in_err-end.ensures
    (number_some _ c.behind-fields.ensures c.in_ok-k.ensures ∙ number_some _ refl c.in_ok-msg_type.ensures
    ∙ number_some _ refl c.in_ok-timeout.ensures ∙ number_some _ refl c.in_ok-time.ensures
    ∙ end_none _ _ c.in_err-end.ensures)

pub returns : goal.returns
unfolding reply_asked
returns c =
    rw (
      read_value c.in_ok-k.ensures,
      read_value c.in_ok-msg_type.ensures,
      read_value c.in_ok-timeout.ensures,
      read_value c.in_ok-time.ensures,
    )
    (sym
    (number_some _ c.behind-fields.ensures c.in_ok-k.ensures ∙ number_some _ refl c.in_ok-msg_type.ensures
    ∙ number_some _ refl c.in_ok-timeout.ensures ∙ number_some _ refl c.in_ok-time.ensures
    ∙ end_some _ _ c.in_ok-end.ensures))
