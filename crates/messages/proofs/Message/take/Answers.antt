-- The session that was found is written, or none was found.
use mathlib.Core.Path.{refl}
use mir.Facts.{to_z-of_z}
use mir.Syntax.{w32}
use borrow.Author.Rules.{rules}
use Rattle.std.proofs.lemmas.Result.{err_from_is_err_and}
use Rattle.refusal.specs.declared.Refusal.TheVariants.{NoSession}
use Rattle.tables.specs.Lists.{lowest}
use Rattle.session.specs.declared.Session.{Session}
use Rattle.session.specs.Session.{can_take, waits_of}
use Rattle.session_table.proofs.Searches.{refused-none, granted-some}
use Rattle.packed.specs.Packed.{tables_of}
use Rattle.messages.specs.Arriving.{heard_by}
use Rattle.messages.proofs.Arrived.{untaken, takes}
use Rattle.messages.proofs.Message.take.Goals as goal

pub returns-in_err-session : goal.returns-in_err-session
returns-in_err-session c =
    let a = c.args in
    let l = lowest (can_take (waits_of a.w) a.self.now.id) (tables_of a.octets.now).sessions in
    let p = err_from_is_err_and c.from_residual.result c.from_residual.ensures.1 in
    let s = refused-none l NoSession c.find_waiting.ensures c.ok_or.ensures.value _ c.in_err-session.was in
    rw (p.1, p.2, s.1) (untaken a.octets.now (heard_by a.self.now) (waits_of a.w) (λ (x : Session). a.after) s.0)

pub returns : goal.returns
returns c =
    let a = c.args in
    let l = lowest (can_take (waits_of a.w) a.self.now.id) (tables_of a.octets.now).sessions in
    let s = granted-some l NoSession c.find_waiting.ensures c.ok_or.ensures.value _ c.in_ok-session.was in
    takes a.octets.now (heard_by a.self.now) (waits_of a.w) (λ (x : Session). a.after) c.in_ok-session.session s a.after
    refl _
    (to_z-of_z {w = w32} (search rules)) _ c.put_session.ensures
