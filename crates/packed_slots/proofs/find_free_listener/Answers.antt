-- The slots are asked one after the other.
use mathlib.Core.Bool.{not}
use borrow.Author.Rules.{rules}
use borrow.Author.Tests.{tests}
use Rattle.packed_slots.proofs.Fields.{vacant_at, held_at}
use Rattle.packed_slots.proofs.Found.{listener_found}
use Rattle.packed_slots.proofs.find_free_listener.Goals as goal

pub returns : goal.returns
returns c =
    listener_found _ _ c.find.ensures.ran (λ l. not l.used) c.args.octets.now
    (λ x q k. search (rules, tests, vacant_at, held_at), λ x q k. search (rules, tests, vacant_at, held_at))
