-- Before each turn the register over s is that over the octets left, begun at c.
use Rattle.std.proofs.Common.{◌≡◌, ◌*◌, drop}
use Rattle.fcs.specs.Fcs.{register}
use Rattle.fcs.proofs.update.Given as goal

abbrev pub invariant-loop-eight : goal.invariant-loop-eight
invariant-loop-eight l = register l.begun l.s ≡ register l.c (drop (l.eight-index * 8) l.s)
