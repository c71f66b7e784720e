-- The slot's number, and the line's end behind it.
use mathlib.Core.Path.{sym, ap, ◌∙◌}
use mathlib.Core.Option.{some}
use Prim.Native.Nat.{ℕ}
use Rattle.line.proofs.Fields.{number_none, number_some, read_value, end_none, end_some}
use Rattle.subscription_table.specs.Table.{unsubscribe}
use Rattle.scenario_pd.specs.Lines.{called, unsub_call}
use Rattle.scenario_pd.proofs.Fields.{unasked}
use Rattle.scenario_pd.proofs.unsub.Goals as goal

pub returns-in_err-k : goal.returns-in_err-k
unfolding unsub_call
returns-in_err-k c =
    unasked c.from_residual.ensures (ap called (number_none _ c.behind-fields.ensures c.in_err-k.ensures))

pub returns-in_err-end : goal.returns-in_err-end
unfolding unsub_call
returns-in_err-end c =
    unasked c.from_residual-in_err-end.ensures
    (ap called (number_some _ c.behind-fields.ensures c.in_ok-k.ensures ∙ end_none _ _ c.in_err-end.ensures))

pub returns : goal.returns
unfolding unsub_call
returns c =
    sym
    (ap called
    (number_some _ c.behind-fields.ensures c.in_ok-k.ensures ∙ end_some _ _ c.in_ok-end.ensures
    ∙ ap (λ (k : ℕ). some (unsubscribe k)) (sym (read_value c.in_ok-k.ensures))))
