-- A telegram, or a line of one of the user's verbs.
use mathlib.Core.Path.{refl, sym, ◌∙◌}
use Rattle.line.proofs.Fields.{chosen, passed}
use Rattle.scenario_md.specs.Lines.{asked_of}
use Rattle.scenario_md.proofs.Served.{answers_as, idle, uncounted}
use Rattle.scenario_md.proofs.answer.Goals as goal

pub returns-then-is_verb : goal.returns-then-is_verb
unfolding asked_of
returns-then-is_verb c =
    answers_as c.md.ensures (chosen _ _ _ (sym c.is_verb.ensures ∙ c.if-is_verb.true) refl)

pub returns-in_err-parse : goal.returns-in_err-parse
unfolding asked_of
returns-in_err-parse c =
    idle c.from_residual.ensures
    (passed _ _ _ (sym c.is_verb.ensures ∙ c.if-is_verb.false) (sym c.in_err-parse.ensures))

pub returns : goal.returns
unfolding asked_of
returns c =
    answers_as (uncounted c.args.statistics.now c.serve.ensures)
    (passed _ _ _ (sym c.is_verb.ensures ∙ c.if-is_verb.false) (sym c.in_ok-parse.ensures))
