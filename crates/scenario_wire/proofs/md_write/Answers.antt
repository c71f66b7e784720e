-- The fields one after the other; the octets of the last are written.
use mathlib.Core.Path.{refl, ap, ◌∙◌}
use mathlib.Core.List.{List}
use Prim.Native.Nat.{ℕ}
use lib.ListN.{take}
use mir.Facts.{to_z-of_z}
use mir.Val.{of_z, to_z}
use mir.Syntax.{w32}
use borrow.Author.Rules.{rules}
use Rattle.octets.specs.Octets.{signed}
use Rattle.md.specs.declared.MdHeader.{MdHeader}
use Rattle.line.proofs.Fields.{number_none, number_some, octets_none, octets_some, read_value}
use Rattle.line.proofs.Fields.{last_none, last_some, unanswered}
use Rattle.answer.proofs.Rooms.{filled_as}
use Rattle.answer.proofs.Said.{answered_by}
use Rattle.scenario_wire_words.proofs.Written.{written_fills}
use Rattle.scenario_wire.specs.Wire.{mdwrite_answer}
use Rattle.scenario_wire.proofs.Wired.{found_none, found_some, target_read, md_words_of, md_wrote}
use Rattle.scenario_wire.proofs.md_write.Goals as goal

pub returns-in_err-counter : goal.returns-in_err-counter
unfolding mdwrite_answer
returns-in_err-counter c =
    unanswered c.args.out.now c.from_residual.ensures
    (number_none _ c.behind-fields.ensures c.in_err-counter.ensures)

pub returns-in_err-common : goal.returns-in_err-common
unfolding mdwrite_answer
returns-in_err-common c =
    unanswered c.args.out.now c.from_residual-in_err-common.ensures
    (number_some _ c.behind-fields.ensures c.in_ok-counter.ensures
    ∙ found_none _ (rw (read_value c.in_ok-counter.ensures) at c.in_err-common.ensures))

pub returns-in_err-status : goal.returns-in_err-status
unfolding mdwrite_answer
returns-in_err-status c =
    unanswered c.args.out.now c.from_residual-in_err-status.ensures
    (number_some _ c.behind-fields.ensures c.in_ok-counter.ensures
    ∙ found_some _ (rw (read_value c.in_ok-counter.ensures) at c.in_ok-common.ensures)
    ∙ number_none _ refl c.in_err-status.ensures)

pub returns-in_err-session_id : goal.returns-in_err-session_id
unfolding mdwrite_answer
returns-in_err-session_id c =
    unanswered c.args.out.now c.from_residual-in_err-session_id.ensures
    (number_some _ c.behind-fields.ensures c.in_ok-counter.ensures
    ∙ found_some _ (rw (read_value c.in_ok-counter.ensures) at c.in_ok-common.ensures)
    ∙ number_some _ refl c.in_ok-status.ensures ∙ octets_none 16 _ refl c.in_err-session_id.ensures)

pub returns-in_err-reply_timeout : goal.returns-in_err-reply_timeout
unfolding mdwrite_answer
returns-in_err-reply_timeout c =
    unanswered c.args.out.now c.from_residual-in_err-reply_timeout.ensures
    (number_some _ c.behind-fields.ensures c.in_ok-counter.ensures
    ∙ found_some _ (rw (read_value c.in_ok-counter.ensures) at c.in_ok-common.ensures)
    ∙ number_some _ refl c.in_ok-status.ensures ∙ octets_some 16 _ refl c.in_ok-session_id.ensures
    ∙ number_none _ refl c.in_err-reply_timeout.ensures)

pub returns-in_err-source_uri : goal.returns-in_err-source_uri
unfolding mdwrite_answer
returns-in_err-source_uri c =
    unanswered c.args.out.now c.from_residual-in_err-source_uri.ensures
    (number_some _ c.behind-fields.ensures c.in_ok-counter.ensures
    ∙ found_some _ (rw (read_value c.in_ok-counter.ensures) at c.in_ok-common.ensures)
    ∙ number_some _ refl c.in_ok-status.ensures ∙ octets_some 16 _ refl c.in_ok-session_id.ensures
    ∙ number_some _ refl c.in_ok-reply_timeout.ensures ∙ octets_none 32 _ refl c.in_err-source_uri.ensures)

pub returns-in_err-destination_uri : goal.returns-in_err-destination_uri
unfolding mdwrite_answer
returns-in_err-destination_uri c =
    unanswered c.args.out.now c.from_residual-in_err-destination_uri.ensures
    (number_some _ c.behind-fields.ensures c.in_ok-counter.ensures
    ∙ found_some _ (rw (read_value c.in_ok-counter.ensures) at c.in_ok-common.ensures)
    ∙ number_some _ refl c.in_ok-status.ensures ∙ octets_some 16 _ refl c.in_ok-session_id.ensures
    ∙ number_some _ refl c.in_ok-reply_timeout.ensures ∙ octets_some 32 _ refl c.in_ok-source_uri.ensures
    ∙ octets_none 32 _ refl c.in_err-destination_uri.ensures)

pub returns-in_err-room : goal.returns-in_err-room
unfolding mdwrite_answer
returns-in_err-room c =
    unanswered c.args.out.now c.from_residual-in_err-room.ensures
    (number_some _ c.behind-fields.ensures c.in_ok-counter.ensures
    ∙ found_some _ (rw (read_value c.in_ok-counter.ensures) at c.in_ok-common.ensures)
    ∙ number_some _ refl c.in_ok-status.ensures ∙ octets_some 16 _ refl c.in_ok-session_id.ensures
    ∙ number_some _ refl c.in_ok-reply_timeout.ensures ∙ octets_some 32 _ refl c.in_ok-source_uri.ensures
    ∙ octets_some 32 _ refl c.in_ok-destination_uri.ensures ∙ number_none _ refl c.in_err-room.ensures)

pub returns-in_err-n : goal.returns-in_err-n
unfolding mdwrite_answer
returns-in_err-n c =
    unanswered c.args.out.now c.from_residual-in_err-n.ensures
    (number_some _ c.behind-fields.ensures c.in_ok-counter.ensures
    ∙ found_some _ (rw (read_value c.in_ok-counter.ensures) at c.in_ok-common.ensures)
    ∙ number_some _ refl c.in_ok-status.ensures ∙ octets_some 16 _ refl c.in_ok-session_id.ensures
    ∙ number_some _ refl c.in_ok-reply_timeout.ensures ∙ octets_some 32 _ refl c.in_ok-source_uri.ensures
    ∙ octets_some 32 _ refl c.in_ok-destination_uri.ensures ∙ number_some _ refl c.in_ok-room.ensures
    ∙ last_none _ _ c.buffer-data.result c.buffer-data.ensures.value c.in_err-n.ensures.value)

pub returns : goal.returns
unfolding mdwrite_answer
returns c =
    let m : MdHeader = record {
      common = c.in_ok-common.common;
      reply_status = to_z w32 (of_z w32 c.to_signed.result);
      reply_timeout = c.in_ok-reply_timeout.reply_timeout;
    } in
    let id = c.in_ok-session_id.session_id in
    let source = c.in_ok-source_uri.source_uri in
    let destination = c.in_ok-destination_uri.destination_uri in
    let d : List ℕ = take c.in_ok-n.n c.last.new.target in
    let t : List ℕ = take c.from.result c.fresh_target-target.result in
    let w = c.write_md-written in
    answered_by
    (number_some _ c.behind-fields.ensures c.in_ok-counter.ensures
    ∙ found_some _ (rw (read_value c.in_ok-counter.ensures) at c.in_ok-common.ensures)
    ∙ number_some _ refl c.in_ok-status.ensures ∙ octets_some 16 _ refl c.in_ok-session_id.ensures
    ∙ number_some _ refl c.in_ok-reply_timeout.ensures ∙ octets_some 32 _ refl c.in_ok-source_uri.ensures
    ∙ octets_some 32 _ refl c.in_ok-destination_uri.ensures ∙ number_some _ refl c.in_ok-room.ensures
    ∙ last_some _ _ c.in_ok-n.n c.buffer-data.result c.last.new.target c.buffer-data.ensures.value
    c.in_ok-n.ensures.value c.in_ok-n.ensures.target_after)
    (filled_as _
    (md_wrote m id source destination t d w.result w.new.target w.ensures
    ∙ md_words_of m.common id source destination d
    (to_z-of_z {w = w32} (search rules) ∙ c.to_signed.ensures ∙ ap signed (read_value c.in_ok-status.ensures))
    (read_value c.in_ok-reply_timeout.ensures)
    (target_read _ c.from.ensures c.fresh_target-target.ensures.value_2 (read_value c.in_ok-room.ensures)))
    (written_fills _ _ _ c.put_written.ensures))
