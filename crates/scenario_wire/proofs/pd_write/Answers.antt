-- The fields one after the other; the octets of the last are written.
use mathlib.Core.Path.{refl, ap, ◌∙◌}
use mathlib.Core.List.{List}
use Prim.Native.Nat.{ℕ}
use lib.ListN.{take}
use Rattle.line.proofs.Fields.{number_none, number_some, read_value, last_none, last_some, unanswered}
use Rattle.answer.proofs.Rooms.{filled_as}
use Rattle.answer.proofs.Said.{answered_by}
use Rattle.scenario_wire_words.proofs.Written.{written_fills}
use Rattle.scenario_wire.specs.Wire.{pdwrite_answer, pd_wrote_words}
use Rattle.scenario_wire.proofs.Wired.{found_none, found_some, target_read, pd_wrote}
use Rattle.scenario_wire.proofs.pd_write.Goals as goal

pub returns-in_err-counter : goal.returns-in_err-counter
unfolding pdwrite_answer
returns-in_err-counter c =
    unanswered c.args.out.now c.from_residual.ensures (number_none _ c.behind-fields.ensures c.in_err-counter.ensures)

pub returns-in_err-header : goal.returns-in_err-header
unfolding pdwrite_answer
returns-in_err-header c =
    unanswered c.args.out.now c.from_residual-in_err-header.ensures
    (number_some _ c.behind-fields.ensures c.in_ok-counter.ensures
    ∙ found_none _ (rw (read_value c.in_ok-counter.ensures) at c.in_err-header.ensures))

pub returns-in_err-room : goal.returns-in_err-room
unfolding pdwrite_answer
returns-in_err-room c =
    unanswered c.args.out.now c.from_residual-in_err-room.ensures
    (number_some _ c.behind-fields.ensures c.in_ok-counter.ensures
    ∙ found_some _ (rw (read_value c.in_ok-counter.ensures) at c.in_ok-header.ensures)
    ∙ number_none _ refl c.in_err-room.ensures)

pub returns-in_err-n : goal.returns-in_err-n
unfolding pdwrite_answer
returns-in_err-n c =
    unanswered c.args.out.now c.from_residual-in_err-n.ensures
    (number_some _ c.behind-fields.ensures c.in_ok-counter.ensures
    ∙ found_some _ (rw (read_value c.in_ok-counter.ensures) at c.in_ok-header.ensures)
    ∙ number_some _ refl c.in_ok-room.ensures
    ∙ last_none _ _ c.buffer-data.result c.buffer-data.ensures.value c.in_err-n.ensures.value)

pub returns : goal.returns
unfolding pdwrite_answer
returns c =
    let h = c.in_ok-header.header in
    let d : List ℕ = take c.in_ok-n.n c.last.new.target in
    let t : List ℕ = take c.from.result c.fresh_target-target.result in
    answered_by
    (number_some _ c.behind-fields.ensures c.in_ok-counter.ensures
    ∙ found_some _ (rw (read_value c.in_ok-counter.ensures) at c.in_ok-header.ensures)
    ∙ number_some _ refl c.in_ok-room.ensures
    ∙ last_some _ _ c.in_ok-n.n c.buffer-data.result c.last.new.target c.buffer-data.ensures.value
    c.in_ok-n.ensures.value c.in_ok-n.ensures.target_after)
    (filled_as _
    (pd_wrote h t d c.write_pd-written.result c.write_pd-written.new.target c.write_pd-written.ensures
    ∙ ap (λ (b : List ℕ). pd_wrote_words h b d)
    (target_read _ c.from.ensures c.fresh_target-target.ensures.value_2 (read_value c.in_ok-room.ensures)))
    (written_fills _ _ _ c.put_written.ensures))
