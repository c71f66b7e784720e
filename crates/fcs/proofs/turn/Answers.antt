use Rattle.fcs.proofs.Halves.{no_more, one_more}
use Rattle.fcs.proofs.turn.Goals as goal

pub loop-k-init : goal.loop-k-init
loop-k-init c = no_more c.args.j c.args.x

pub loop-k-preserved : goal.loop-k-preserved
loop-k-preserved c = cc (one_more c.loop-k.k c.args.j c.args.x)
