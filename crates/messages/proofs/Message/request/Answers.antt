-- A session is opened where a listener hears the request.
use mathlib.Core.Path.{sym, ◌∙◌}
use borrow.Author.Rules.{rules}
use Rattle.session_table.proofs.Searches.{found_some}
use Rattle.messages.specs.Arriving.{heard_by}
use Rattle.messages.proofs.Arrived.{requested, full, in-use}
use Rattle.messages.proofs.Message.request.Goals as goal

pub returns-in-Ok : goal.returns-in-Ok
returns-in-Ok c =
    let a = c.args in
    requested a.octets.now (heard_by a.self.now) c.in-Some.listener
    (found_some _ _ (sym c.listener.ensures ∙ c.in-Some.is))
    c.open.result c.open.new.octets (rw (← c.timing.ensures) c.open.ensures) c.in-Ok.session c.in-Ok.is

pub returns-in-Err-NoFreeSession : goal.returns-in-Err-NoFreeSession
returns-in-Err-NoFreeSession c =
    let a = c.args in
    full a.octets.now (heard_by a.self.now) c.in-Some.listener (found_some _ _ (sym c.listener.ensures ∙ c.in-Some.is))
    c.open.result c.open.new.octets (rw (← c.timing.ensures) c.open.ensures)
    (rw (← c.in-Err-NoFreeSession.field-0-is) c.in-Err-NoFreeSession.is)

pub returns-in-Err : goal.returns-in-Err
returns-in-Err c =
    let a = c.args in
    rw c.into.ensures
    (in-use a.octets.now (heard_by a.self.now) c.in-Some.listener (found_some _ _ (sym c.listener.ensures ∙ c.in-Some.is))
    c.open.result c.open.new.octets (rw (← c.timing.ensures) c.open.ensures) c.in-Err.refusal (search rules)
    c.in-Err.is)
