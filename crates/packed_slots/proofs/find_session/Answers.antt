-- The slots are asked one after the other.
use borrow.Author.Rules.{rules}
use borrow.Author.Tests.{tests}
use Rattle.session.specs.Session.{has}
use Rattle.packed_slots.proofs.Fields.{has-free}
use Rattle.packed_slots.proofs.Found.{session_found}
use Rattle.packed_slots.proofs.find_session.Goals as goal

pub returns : goal.returns
returns c =
    session_found _ _ c.find.ensures.ran (has c.args.id) c.args.octets.now
    (λ x q k. search (rules, tests, has-free), λ x q k. search (rules, tests, has-free))
