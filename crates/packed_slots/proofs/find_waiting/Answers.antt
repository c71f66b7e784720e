-- The slots are asked one after the other.
use borrow.Author.Rules.{rules}
use borrow.Author.Tests.{tests}
use Rattle.session.specs.Session.{can_take, waits_of}
use Rattle.packed_slots.proofs.Fields.{takes-free}
use Rattle.packed_slots.proofs.Found.{session_found}
use Rattle.packed_slots.proofs.find_waiting.Goals as goal

pub returns : goal.returns
returns c =
    session_found _ _ c.find.ensures.ran (can_take (waits_of c.args.w) c.args.id) c.args.octets.now
    (λ x q k. search (rules, tests, takes-free), λ x q k. search (rules, tests, takes-free))
