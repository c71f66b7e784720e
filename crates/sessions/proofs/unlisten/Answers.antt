-- The record of the slot decides, and is written where it was freed.
use borrow.Author.Tests.{not-true, not-false}
use Rattle.sessions.proofs.Answers.{unlisten-done, unlisten-none}
use Rattle.sessions.proofs.unlisten.Goals as goal

pub returns-then-not-listener_at : goal.returns-then-not-listener_at
returns-then-not-listener_at c =
    let a = c.args in
    let x = c.listener_at.result in
    unlisten-none a.k a.octets.now x c.listener_at.ensures (not-true x.used c.if-not-listener_at.true)

pub returns : goal.returns
returns c =
    let a = c.args in
    let x = c.listener_at.result in
    unlisten-done a.k a.octets.now x c.listener_at.ensures (not-false x.used c.if-not-listener_at.false) _
    c.free.ensures _ c.put_listener.ensures
