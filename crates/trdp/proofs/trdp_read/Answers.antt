use Rattle.trdp.proofs.Reading.{slot-there}
use Rattle.trdp.proofs.trdp_read.Goals as goal

pub of_slot-requires : goal.of_slot-requires
of_slot-requires c = let a = c.args in rw c.read.ensures.exact (slot-there a.k a.t.now a.store.now)
