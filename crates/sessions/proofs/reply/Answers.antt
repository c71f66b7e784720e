-- The record of the slot decides, and is written where it changed.
use mathlib.Core.Path.{refl, sym, ◌∙◌}
use Rattle.sessions.proofs.Answers.{slot-free, slot-done, slot-other, reply-step, reply-none}
use Rattle.session.specs.Session.{is_with_user}
use Rattle.session_table.specs.Table as table
use Rattle.packed.specs.Packed.{tables_of}
use Rattle.sessions.proofs.reply.Goals as goal

pub returns-then-not-is_reply : goal.returns-then-not-is_reply
returns-then-not-is_reply c =
    let a = c.args in
    reply-none a.k a.msg_type a.timeout a.time a.octets.now (sym c.is_reply.ensures ∙ c.if-not-is_reply.true)

pub returns-then-is_free : goal.returns-then-is_free
returns-then-is_free c =
    let a = c.args in
    slot-free (table.reply a.k a.msg_type a.timeout a.time) a.octets.now is_with_user table.replied
    (table.answered a.msg_type a.timeout a.time) a.k
    (reply-step a.k a.msg_type a.timeout a.time (tables_of a.octets.now)
    (sym c.is_reply.ensures ∙ c.if-not-is_reply.false))
    c.session_at-x.result c.session_at-x.ensures (sym c.is_free.ensures ∙ c.if-is_free.true)

pub returns-then-not-is_with_user : goal.returns-then-not-is_with_user
returns-then-not-is_with_user c =
    let a = c.args in
    slot-other (table.reply a.k a.msg_type a.timeout a.time) a.octets.now is_with_user table.replied
    (table.answered a.msg_type a.timeout a.time) a.k
    (reply-step a.k a.msg_type a.timeout a.time (tables_of a.octets.now)
    (sym c.is_reply.ensures ∙ c.if-not-is_reply.false))
    c.session_at-x.result c.session_at-x.ensures (sym c.is_free.ensures ∙ c.if-is_free.false)
    (sym c.is_with_user.ensures ∙ c.if-not-is_with_user.true)

pub returns : goal.returns
returns c =
    let a = c.args in
    slot-done (table.reply a.k a.msg_type a.timeout a.time) a.octets.now is_with_user table.replied
    (table.answered a.msg_type a.timeout a.time) a.k
    (reply-step a.k a.msg_type a.timeout a.time (tables_of a.octets.now)
    (sym c.is_reply.ensures ∙ c.if-not-is_reply.false))
    c.session_at-x.result c.session_at-x.ensures (sym c.is_free.ensures ∙ c.if-is_free.false)
    (sym c.is_with_user.ensures ∙ c.if-not-is_with_user.false) _ c.answered.ensures _ c.put_session.ensures (λ t. refl)
