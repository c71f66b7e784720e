-- Each number is put behind those before it.
use Rattle.std.proofs.Common.{ap, sym, ◌∙◌, ℕ, ◌++◌, arith, take}
use Rattle.std.proofs.lemmas.List.{take_all}
use Rattle.answer.specs.Answer.{decimal}
use Rattle.answer.proofs.Rooms.{◌▹◌, filled_as}
use Rattle.answer.proofs.Said.{nothing_put}
use Rattle.scenario_calls.specs.Counters.{decimals}
use Rattle.scenario_calls.proofs.Counted.{one-more}
use Rattle.scenario_calls.proofs.counters.put_all.Goals as goal

pub loop-n-init : goal.loop-n-init
loop-n-init c = nothing_put c.args.out.now

pub loop-n-preserved : goal.loop-n-preserved
loop-n-preserved c =
    let ns = c.args.numbers.now in
    let i = c.loop-n.n-index in
    filled_as _ (ap (λ (x : ℕ). decimals (take i ns) ++ decimal x) c.from.ensures ∙ sym (one-more ns i (omega arith)))
    (c.loop-n.invariant ▹ c.decimal.ensures)

pub returns : goal.returns
returns c = filled_as _ (ap decimals (take_all _ c.args.numbers.now (omega arith))) c.loop-n.invariant
