-- No publication, a line of another form, or a sending.
use mathlib.Core.Path.{refl, sym, ap, ap₂, ◌∙◌}
use mathlib.Core.List.{List}
use mathlib.Core.Option.{some}
use Prim.Native.Nat.{ℕ}
use lib.ListN.{take}
use Rattle.std.specs.Prelude.{Option}
use Rattle.publication.specs.declared.Publication.{Publication}
use Rattle.line.proofs.Fields.{number_none, number_some, read_value, last_none, last_some}
use Rattle.answer.proofs.Rooms.{filled_as}
use Rattle.scenario_wire_words.proofs.Written.{written_fills}
use Rattle.scenario_wire.specs.Publications.{sent_said, send_said}
use Rattle.scenario_wire.proofs.Wired.{publishes_none, publishes_some, target_read, sent_words, sent_held}
use Rattle.scenario_wire.proofs.publications.send.Goals as goal

pub returns-in_err-publication : goal.returns-in_err-publication
unfolding send_said
returns-in_err-publication c =
    publishes_none c.from_residual.ensures
    (ap (λ (h : Option Publication). send_said h c.args.s.now) c.in_err-publication.was)

pub returns-in_err-time : goal.returns-in_err-time
unfolding send_said
returns-in_err-time c =
    publishes_none c.from_residual-in_err-time.ensures
    (ap (λ (h : Option Publication). send_said h c.args.s.now) c.in_ok-publication.was
    ∙ number_none _ c.behind-fields.ensures c.in_err-time.ensures)

pub returns-in_err-room : goal.returns-in_err-room
unfolding send_said
returns-in_err-room c =
    publishes_none c.from_residual-in_err-room.ensures
    (ap (λ (h : Option Publication). send_said h c.args.s.now) c.in_ok-publication.was
    ∙ number_some _ c.behind-fields.ensures c.in_ok-time.ensures ∙ number_none _ refl c.in_err-room.ensures)

pub returns-in_err-n : goal.returns-in_err-n
unfolding send_said
returns-in_err-n c =
    publishes_none c.from_residual-in_err-n.ensures
    (ap (λ (h : Option Publication). send_said h c.args.s.now) c.in_ok-publication.was
    ∙ number_some _ c.behind-fields.ensures c.in_ok-time.ensures ∙ number_some _ refl c.in_ok-room.ensures
    ∙ last_none _ _ c.buffer-data.result c.buffer-data.ensures.value c.in_err-n.ensures.value)

pub returns : goal.returns
unfolding send_said
returns c =
    let p = c.in_ok-publication.publication in
    let time = c.in_ok-time.time in
    let d : List ℕ = take c.in_ok-n.n c.last.new.target in
    let t : List ℕ = take c.from.result c.fresh_target-target.result in
    let s = c.send-sent in
    publishes_some (sent_said p time t d)
    (ap (λ (h : Option Publication). send_said h c.args.s.now) c.in_ok-publication.was
    ∙ number_some _ c.behind-fields.ensures c.in_ok-time.ensures ∙ number_some _ refl c.in_ok-room.ensures
    ∙ last_some _ _ c.in_ok-n.n c.buffer-data.result c.last.new.target c.buffer-data.ensures.value
    c.in_ok-n.ensures.value c.in_ok-n.ensures.target_after
    ∙ sym
    (ap₂ (λ (x : ℕ) (b : List ℕ). some (sent_said p x b d)) (read_value c.in_ok-time.ensures)
    (target_read _ c.from.ensures c.fresh_target-target.ensures.value_2 (read_value c.in_ok-room.ensures))))
    (filled_as _ (sent_words p s.new.self time t d s.result s.new.target s.ensures) (written_fills _ _ _ c.put_written.ensures))
    (sent_held p s.new.self time t d s.result s.new.target s.ensures)
