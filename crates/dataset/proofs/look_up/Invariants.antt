-- The loop's invariant: the look-up in what is left of the run finds what the whole look-up finds.
use Rattle.std.proofs.Common.{◌≡◌, ◌≤◌, length}
use Rattle.dataset.specs.Descriptions.{look_up, scan}
use Rattle.dataset.proofs.look_up.Given as goal

abbrev pub invariant-loop-rest : goal.invariant-loop-rest
invariant-loop-rest l = (length l.rest ≤ length l.run) × (look_up l.id l.run ≡ scan (length l.run) l.id l.rest)

abbrev pub decreases-loop-rest : goal.decreases-loop-rest
decreases-loop-rest l = length l.rest
