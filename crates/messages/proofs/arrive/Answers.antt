-- A datagram that was judged is refused, or follows the rule of its type.
use mathlib.Core.Path.{sym, ◌∙◌}
use mir.Facts.{to_z-of_z}
use mir.Syntax.{w32}
use borrow.Author.Rules.{rules}
use Rattle.std.proofs.lemmas.Result.{err_from_is_err_and}
use Rattle.messages.proofs.Arrived.{refused-follows, passed-follows}
use Rattle.messages.proofs.arrive.Goals as goal

pub returns-in_err-h : goal.returns-in_err-h
returns-in_err-h c =
    let a = c.args in
    let p = err_from_is_err_and c.from_residual.result c.from_residual.ensures.1 in
    rw (p.1, p.2)
    (refused-follows a.a a.datagram.now a.octets.now c.in_err-h.field-0.0 (sym c.judge.ensures ∙ c.in_err-h.was))

pub returns : goal.returns
returns c =
    let a = c.args in
    passed-follows a.a a.datagram.now c.in_ok-h.h (sym c.judge.ensures ∙ c.in_ok-h.was) c.session_id.result _
    c.destination_uri.result
    c.session_id.ensures c.destination_uri.ensures (to_z-of_z {w = w32} (search rules)) a.octets.now _ _
    c.follow.ensures
