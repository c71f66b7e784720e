use Rattle.std.proofs.Common.{ap}
use Rattle.subscription_decisions.specs.Read.{octets_of}
use Rattle.subscriptions.proofs.Viewing.{reads}
use Rattle.subscriptions.proofs.show.Goals as goal

pub returns : goal.returns
returns c =
    let a = c.args in
    rw (c.show_record.ensures, c.slot_at.ensures)
    (ap octets_of ((reads a.k a.slots.now a.store.now).answers a.substitute.now))
