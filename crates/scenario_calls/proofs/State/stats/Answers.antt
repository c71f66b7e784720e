-- The verb alone, or not.
use borrow.Author.Tests.{eq-eqb, ne_eqb}
use lib.ListN.{length}
use Rattle.scenario_calls.proofs.Calls.{stats_unsaid, stats_said}
use Rattle.scenario_calls.proofs.State.stats.Goals as goal

pub returns-then-s-ne5 : goal.returns-then-s-ne5
returns-then-s-ne5 c =
    stats_unsaid c.args.self.now c.args.s.now (ne_eqb (length c.args.s.now) 5 c.if-s-ne5.true)

pub returns : goal.returns
returns c =
    stats_said c.args.self.now c.args.s.now (eq-eqb (length c.args.s.now) 5 c.if-s-ne5.false) c.put_statistics.ensures
