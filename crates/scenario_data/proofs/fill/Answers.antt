-- One number more is written; at the end all are.
use Rattle.std.proofs.Common.{ℕ, List, ap₂, ◌∙◌, set, arith}
use Rattle.scenario_data.proofs.Described.{filled_more}
use Rattle.scenario_data.proofs.fill.Goals as goal

pub loop-i-preserved : goal.loop-i-preserved
loop-i-preserved c =
    let a = c.args in
    let i = c.loop-i.i in
    ap₂ (λ (l : List ℕ) (x : ℕ). set l i x) c.loop-i.invariant c.big.ensures
    ∙ filled_more a.run.now a.s.now i (omega arith)
