-- The fields one after the other; the octets of the last are converted.
use Rattle.std.proofs.Common.{List, ℕ, refl, ap, ap₂, ◌∙◌, take, arith}
use Rattle.line.specs.Line.{target_of}
use Rattle.line.proofs.Fields.{number_none, number_some, read_value, last_none, last_some, target_is, unanswered}
use Rattle.answer.proofs.Rooms.{filled_as}
use Rattle.answer.proofs.Said.{answered_by}
use Rattle.scenario_wire_words.proofs.Written.{written_fills}
use Rattle.scenario_data.specs.Data.{convert_answer, convert_words}
use Rattle.scenario_data.proofs.Described.{written_as}
use Rattle.scenario_data.proofs.convert.Goals as goal

pub returns-in_err-id : goal.returns-in_err-id
unfolding convert_answer
returns-in_err-id c =
    unanswered c.args.out.now c.from_residual.ensures (number_none _ c.behind-fields.ensures c.in_err-id.ensures)

pub returns-in_err-room : goal.returns-in_err-room
unfolding convert_answer
returns-in_err-room c =
    unanswered c.args.out.now c.from_residual-in_err-room.ensures
    (number_some _ c.behind-fields.ensures c.in_ok-id.ensures ∙ number_none _ refl c.in_err-room.ensures)

pub returns-in_err-n : goal.returns-in_err-n
unfolding convert_answer
returns-in_err-n c =
    unanswered c.args.out.now c.from_residual-in_err-n.ensures
    (number_some _ c.behind-fields.ensures c.in_ok-id.ensures ∙ number_some _ refl c.in_ok-room.ensures
    ∙ last_none _ _ c.buffer-data.result c.buffer-data.ensures.value c.in_err-n.ensures.value)

pub returns : goal.returns
unfolding convert_answer
returns c =
    let a = c.args in
    let d : List ℕ = take c.in_ok-n.n c.last.new.target in
    let f = c.fresh_target-target in
    let k = c.convert-converted in
    let room = read_value c.in_ok-room.ensures in
    let t : List ℕ = take c.from.result f.result in
    let e = target_is f.result c.from.result f.ensures.value_2 (omega (arith, c.from.ensures, room)) in
    answered_by
    (number_some _ c.behind-fields.ensures c.in_ok-id.ensures ∙ number_some _ refl c.in_ok-room.ensures
    ∙ last_some _ _ c.in_ok-n.n c.buffer-data.result c.last.new.target c.buffer-data.ensures.value
    c.in_ok-n.ensures.value c.in_ok-n.ensures.target_after)
    (filled_as _
    (written_as a.form a.done.now a.run.now c.in_ok-id.id t d k.result k.new.target k.ensures
    ∙ ap₂ (λ (i : ℕ) (t : List ℕ). convert_words a.form a.done.now a.run.now i t d) (read_value c.in_ok-id.ensures)
    (e ∙ ap target_of (c.from.ensures ∙ room)))
    (written_fills _ _ _ c.put_written.ensures))
