-- The slots are asked one after the other.
use borrow.Author.Rules.{rules}
use borrow.Author.Tests.{tests}
use Rattle.session.specs.Session.{is_free}
use Rattle.packed_slots.proofs.Fields.{free-true, free-false}
use Rattle.packed_slots.proofs.Found.{session_found}
use Rattle.packed_slots.proofs.find_free_session.Goals as goal

pub returns : goal.returns
returns c =
    session_found _ _ c.find.ensures.ran (λ x. is_free x.state) c.args.octets.now
    (λ x q k. search (rules, tests, free-true, free-false), λ x q k. search (rules, tests, free-true, free-false))
