-- What is left stands behind octets without LF.
use Rattle.std.proofs.Common.{◌≡◌, ◌+◌, ◌-◌, ◌≤◌, length}
use Rattle.line.specs.Lines.{until_end}
use Rattle.line.proofs.near_end.Given as goal

abbrev pub invariant-loop-part : goal.invariant-loop-part
invariant-loop-part l =
    (length l.rest ≤ length l.block) × (length l.block - length l.rest + until_end l.rest ≡ until_end l.block)

abbrev pub decreases-loop-part : goal.decreases-loop-part
decreases-loop-part l = length l.rest
