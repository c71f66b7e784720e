-- What was packed means the session again, since its fields hold values of their types.
use borrow.Author.Rules.{rules}
use Rattle.packed.proofs.Records.{session-back}
use Rattle.packed.proofs.pack_session.Goals as goal

pub returns-clause-back : goal.returns-clause-back
returns-clause-back c =
    session-back c.args.x c.timing-timing.result c.timing-timing.ensures (search rules) (search rules) (search rules)
