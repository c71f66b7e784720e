-- The list has an LF where one was found so far or what is left has one.
use Rattle.std.proofs.Common.{◌≡◌, ◌||◌, drop}
use Rattle.line.specs.Lines.{has_end}
use Rattle.line.proofs.has_end.Given as goal

abbrev pub invariant-loop-x : goal.invariant-loop-x
invariant-loop-x l = (l.found || has_end (drop l.x-index l.s)) ≡ has_end l.s
