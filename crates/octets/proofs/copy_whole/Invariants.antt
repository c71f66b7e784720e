-- The loop's invariant: the first i octets of the target are those of the source.
use Rattle.std.proofs.Common.{◌≡◌}
use Rattle.octets.proofs.Parts.{over}
use Rattle.octets.proofs.copy_whole.Given as goal

abbrev pub invariant-loop-i : goal.invariant-loop-i
invariant-loop-i l = l.target ≡ over l.source l.fn.target l.i
