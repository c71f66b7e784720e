-- By the verb, and what the slot's number has said of it.
use mathlib.Core.Path.{sym}
use Rattle.answer.proofs.Said.{answered_by}
use Rattle.line.proofs.Fields.{chosen, passed, unanswered}
use Rattle.scenario_pd_look.specs.Look.{look_answer, slot_answer, slot_words, part_answer, part_words}
use Rattle.scenario_pd_look.proofs.answer.Goals as goal

pub returns-in_err-slot_number : goal.returns-in_err-slot_number
unfolding look_answer slot_answer
returns-in_err-slot_number c =
    let a = c.args in
    unanswered a.out.now c.from_residual.ensures
    (passed _ _ _ (sym c.if-is_verb.ensures)
    (chosen _ _ _ (sym c.if-is_verb-2.ensures) (c.in_err-slot_number.ensures (λ k. slot_words k a.t.now))))

pub returns-in_ok-slot_number : goal.returns-in_ok-slot_number
unfolding look_answer slot_answer
returns-in_ok-slot_number c =
    answered_by
    (passed _ _ _ (sym c.if-is_verb.ensures)
    (chosen _ _ _ (sym c.if-is_verb-2.ensures) (c.in_ok-slot_number.ensures (λ k. slot_words k c.args.t.now))))
    c.put_slot.ensures

pub returns-in_err-slot_number-2 : goal.returns-in_err-slot_number-2
unfolding look_answer part_answer
returns-in_err-slot_number-2 c =
    let a = c.args in
    unanswered a.out.now c.from_residual-in_err-slot_number-2.ensures
    (passed _ _ _ (sym c.if-is_verb.ensures)
    (passed _ _ _ (sym c.if-is_verb-2.ensures)
    (chosen _ _ _ (sym c.if-is_verb-3.ensures) (c.in_err-slot_number-2.ensures (λ k. part_words k a.store.now)))))

pub returns-in_ok-slot_number-2 : goal.returns-in_ok-slot_number-2
unfolding look_answer part_answer
returns-in_ok-slot_number-2 c =
    answered_by
    (passed _ _ _ (sym c.if-is_verb.ensures)
    (passed _ _ _ (sym c.if-is_verb-2.ensures)
    (chosen _ _ _ (sym c.if-is_verb-3.ensures) (c.in_ok-slot_number-2.ensures (λ k. part_words k c.args.store.now)))))
    c.put_part.ensures
