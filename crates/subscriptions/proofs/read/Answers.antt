use Rattle.subscriptions.proofs.Viewing.{reads}
use Rattle.subscriptions.proofs.read.Goals as goal

pub returns-clause-reads : goal.returns-clause-reads
returns-clause-reads c = rw (c.read_record.ensures, c.slot_at.ensures) (reads c.args.k c.args.slots.now c.args.store.now)
