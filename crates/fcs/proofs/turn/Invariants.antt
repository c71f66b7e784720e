-- The loop's invariant: 64 steps of the low k half octets.
use Rattle.std.proofs.Common.{◌≡◌, ◌*◌, ◌^◌, ◌%◌}
use Rattle.fcs_steps.specs.Steps.{bits}
use Rattle.fcs.proofs.turn.Given as goal

abbrev pub invariant-loop-k : goal.invariant-loop-k
invariant-loop-k l = l.c ≡ bits 64 (l.x % 2 ^ (4 * l.k) * 2 ^ (4 * l.j))
