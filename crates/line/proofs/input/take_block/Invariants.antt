-- Each line leaves less of the block.
use Rattle.std.proofs.Common.{length}
use Rattle.line.proofs.input.take_block.Given as goal

abbrev pub decreases-loop-part : goal.decreases-loop-part
decreases-loop-part g l = length l.rest
