-- What was packed means the listener again, since its fields hold values of their types.
use borrow.Author.Rules.{rules}
use Rattle.packed.proofs.Records.{listener-back}
use Rattle.packed.proofs.pack_listener.Goals as goal

pub returns-clause-back : goal.returns-clause-back
returns-clause-back c =
    listener-back c.args.l (search (rules, c.well_formed)) (search (rules, c.well_formed))
    (search (rules, c.well_formed)) (search rules)
