-- A session whose time is up is freed.
use mathlib.Core.Path.{◌≡◌, sym, ap, ◌∙◌}
use mathlib.Core.Bool.{true}
use lib.ListN.{get_or}
use Rattle.session.specs.Session.{free_session, is_up}
use Rattle.session.specs.declared.Session.{Session}
use Rattle.packed.specs.Packed.{tables_of}
use Rattle.sessions.proofs.Checking.{expires-up}
use Rattle.sessions.proofs.expire.Goals as goal

pub returns-clause-expires : goal.returns-clause-expires
returns-clause-expires c =
    let a = c.args in
    let e : is_up a.time (get_or (tables_of a.octets.now).sessions a.k free_session).state ≡ true =
    ap (λ (y : Session). is_up a.time y.state) (sym c.session_at-state.ensures)
    ∙ sym c.is_up.ensures
    ∙ c.if-not-is_up.false in
    expires-up a.time a.k a.octets.now _ c.free.result e c.free.ensures c.put_session.ensures
