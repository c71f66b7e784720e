-- The slot's number, and the substitute set behind it.
use mathlib.Core.Path.{sym, ap, ◌∙◌}
use mathlib.Core.List.{List}
use mathlib.Core.Option.{some}
use Prim.Native.Nat.{ℕ}
use lib.ListN.{take}
use Rattle.lent.specs.Lent.{lent_of}
use Rattle.subscription_table.specs.Table.{read, step}
use Rattle.answer.proofs.Said.{answered_by}
use Rattle.line.proofs.Fields.{number_none, number_some, read_value, last_none, last_some, unanswered}
use Rattle.scenario_pd_words.specs.Words.{answer_words}
use Rattle.scenario_pd_look.specs.Look.{read_answer}
use Rattle.scenario_pd_look.proofs.read.Goals as goal

pub returns-in_err-k : goal.returns-in_err-k
unfolding read_answer
returns-in_err-k c =
    unanswered c.args.out.now c.from_residual.ensures (number_none _ c.behind-fields.ensures c.in_err-k.ensures)

pub returns-in_err-n : goal.returns-in_err-n
unfolding read_answer
returns-in_err-n c =
    unanswered c.args.out.now c.from_residual-in_err-n.ensures
    (number_some _ c.behind-fields.ensures c.in_ok-k.ensures
    ∙ last_none _ _ c.buffer-data.result c.buffer-data.ensures.value c.in_err-n.ensures.value)

pub returns : goal.returns
unfolding read_answer
returns c =
    let a = c.args in
    let set : List ℕ = take c.in_ok-n.n c.last.new.target in
    answered_by
    (number_some _ c.behind-fields.ensures c.in_ok-k.ensures
    ∙ last_some _ _ c.in_ok-n.n c.buffer-data.result c.last.new.target c.buffer-data.ensures.value
    c.in_ok-n.ensures.value c.in_ok-n.ensures.target_after
    ∙ ap
    (λ (x : ℕ). some (answer_words (step (read x set) (lent_of a.t.now a.store.now)).answer))
    (sym (read_value c.in_ok-k.ensures)))
    c.put_read.ensures
