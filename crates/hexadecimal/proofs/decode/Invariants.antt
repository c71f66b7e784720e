-- The loop's invariant: the target's first i octets are those that the digits write.
use Rattle.std.proofs.Common.{◌≡◌}
use Rattle.octets.proofs.Parts.{over}
use Rattle.hexadecimal.specs.Hex.{octets_of}
use Rattle.hexadecimal.proofs.decode.Given as goal

abbrev pub invariant-loop-i : goal.invariant-loop-i
invariant-loop-i l = l.target ≡ over (octets_of l.digits) l.initial.target l.i
