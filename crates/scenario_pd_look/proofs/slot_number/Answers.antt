-- The slot's number, and the line's end behind it.
use mathlib.Core.Path.{sym, ap, ◌∙◌}
use mathlib.Core.Option.{some}
use Prim.Native.Nat.{ℕ}
use Rattle.line.proofs.Fields.{number_none, number_some, read_value, end_none, end_some}
use Rattle.scenario_pd_look.proofs.slot_number.Goals as goal

pub returns-in_err-k : goal.returns-in_err-k
returns-in_err-k c = λ said. rw c.from_residual.ensures (number_none _ c.behind-fields.ensures c.in_err-k.ensures)

pub returns-in_err-end : goal.returns-in_err-end
returns-in_err-end c =
    λ said. rw c.from_residual-in_err-end.ensures
    (number_some _ c.behind-fields.ensures c.in_ok-k.ensures ∙ end_none _ _ c.in_err-end.ensures)

pub returns : goal.returns
returns c =
    λ said. number_some _ c.behind-fields.ensures c.in_ok-k.ensures ∙ end_some _ _ c.in_ok-end.ensures
    ∙ ap (λ (k : ℕ). some (said k)) (sym (read_value c.in_ok-k.ensures))
