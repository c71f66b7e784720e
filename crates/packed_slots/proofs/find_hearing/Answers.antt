-- The slots are asked one after the other.
use borrow.Author.Rules.{rules}
use borrow.Author.Tests.{tests}
use Rattle.session.specs.Listener.{hears}
use Rattle.packed_slots.proofs.Found.{listener_found}
use Rattle.packed_slots.proofs.find_hearing.Goals as goal

pub returns : goal.returns
returns c =
    let a = c.args in
    listener_found _ _ c.find.ensures.ran (hears a.com_id a.sender a.destination.now) a.octets.now
    (λ x q k. search (rules, tests), λ x q k. search (rules, tests))
