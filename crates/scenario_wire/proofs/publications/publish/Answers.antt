-- The fields one after the other, and the line's end behind them.
use mathlib.Core.Path.{refl, ap, ◌∙◌}
use Rattle.std.specs.Prelude.{Some}
use Rattle.publication.specs.Publication.{made_of}
use Rattle.line.proofs.Fields.{number_none, number_some, read_value, end_none, end_some}
use Rattle.scenario_wire.specs.Publications.{pub_said}
use Rattle.scenario_wire.proofs.Wired.{found_none, found_some, publishes_none, publishes_some}
use Rattle.scenario_wire.proofs.publications.publish.Goals as goal

pub returns-in_err-header : goal.returns-in_err-header
unfolding pub_said
returns-in_err-header c =
    publishes_none c.from_residual.ensures (found_none _ (rw c.behind-fields.ensures at c.in_err-header.ensures))

pub returns-in_err-cycle : goal.returns-in_err-cycle
unfolding pub_said
returns-in_err-cycle c =
    publishes_none c.from_residual-in_err-cycle.ensures
    (found_some _ (rw c.behind-fields.ensures at c.in_ok-header.ensures) ∙ number_none _ refl c.in_err-cycle.ensures)

pub returns-in_err-end : goal.returns-in_err-end
unfolding pub_said
returns-in_err-end c =
    publishes_none c.from_residual-in_err-end.ensures
    (found_some _ (rw c.behind-fields.ensures at c.in_ok-header.ensures) ∙ number_some _ refl c.in_ok-cycle.ensures
    ∙ end_none _ _ c.in_err-end.ensures)

pub returns : goal.returns
unfolding pub_said
returns c =
    publishes_some _
    (found_some _ (rw c.behind-fields.ensures at c.in_ok-header.ensures) ∙ number_some _ refl c.in_ok-cycle.ensures
    ∙ end_some _ _ c.in_ok-end.ensures)
    c.word-2.ensures
    (ap Some (c.new.ensures ∙ ap (made_of c.in_ok-header.header) (read_value c.in_ok-cycle.ensures)))
