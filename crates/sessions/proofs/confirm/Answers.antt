-- The record of the slot decides, and is written where it changed.
use mathlib.Core.Path.{refl, sym, ◌∙◌}
use Rattle.sessions.proofs.Answers.{slot-free, slot-done, slot-other, confirm-step}
use Rattle.session.specs.Session.{owes_confirm}
use Rattle.session_table.specs.Table as table
use Rattle.packed.specs.Packed.{tables_of}
use Rattle.sessions.proofs.confirm.Goals as goal

pub returns-then-is_free : goal.returns-then-is_free
returns-then-is_free c =
    let a = c.args in
    slot-free (table.confirm a.k) a.octets.now owes_confirm table.confirmed table.ended a.k
    (confirm-step a.k (tables_of a.octets.now))
    c.session_at-x.result c.session_at-x.ensures (sym c.is_free.ensures ∙ c.if-is_free.true)

pub returns-then-not-owes_confirm : goal.returns-then-not-owes_confirm
returns-then-not-owes_confirm c =
    let a = c.args in
    slot-other (table.confirm a.k) a.octets.now owes_confirm table.confirmed table.ended a.k
    (confirm-step a.k (tables_of a.octets.now))
    c.session_at-x.result c.session_at-x.ensures (sym c.is_free.ensures ∙ c.if-is_free.false)
    (sym c.owes_confirm.ensures ∙ c.if-not-owes_confirm.true)

pub returns : goal.returns
returns c =
    let a = c.args in
    slot-done (table.confirm a.k) a.octets.now owes_confirm table.confirmed table.ended a.k
    (confirm-step a.k (tables_of a.octets.now))
    c.session_at-x.result c.session_at-x.ensures (sym c.is_free.ensures ∙ c.if-is_free.false)
    (sym c.owes_confirm.ensures ∙ c.if-not-owes_confirm.false) _ c.free.ensures _ c.put_session.ensures (λ t. refl)
