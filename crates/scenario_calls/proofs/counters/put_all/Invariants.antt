-- The numbers so far are put.
use Rattle.std.proofs.Common.{take}
use Rattle.answer.specs.Lent.{Fills}
use Rattle.scenario_calls.specs.Counters.{decimals}
use Rattle.scenario_calls.proofs.counters.put_all.Given as goal

abbrev pub invariant-loop-n : goal.invariant-loop-n
invariant-loop-n l = Fills (decimals (take l.n-index l.numbers)) l.fn.out l.out
