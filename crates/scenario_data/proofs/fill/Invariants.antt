-- The loop's invariant: the run stays as long as it was, and its first i numbers are written.
use Rattle.std.proofs.Common.{◌≡◌, ◌++◌, drop}
use Rattle.scenario_data.specs.Data.{numbers_of}
use Rattle.scenario_data.proofs.fill.Given as goal

abbrev pub invariant-loop-i : goal.invariant-loop-i
invariant-loop-i l = l.run ≡ numbers_of l.i l.s ++ drop l.i l.initial.run
