-- The pieces one after the other.
use Rattle.std.proofs.Common.{ap₂, ◌++◌, ℕ}
use Rattle.octets.specs.Octets.{part}
use Rattle.answer.specs.Answer.{spaced, decimal}
use Rattle.answer.proofs.Rooms.{◌▹◌, filled_as}
use Rattle.scenario_calls.specs.Counters.{decimals}
use Rattle.scenario_calls.proofs.counters.put_counters.Goals as goal

pub returns : goal.returns
returns c =
    let a = c.args in
    filled_as _
    (ap₂ (λ (m n : ℕ). spaced a.family.now ++ decimal m ++ decimal n ++ decimals (part 7 2 a.c.now.refused))
    c.from.ensures c.from-2.ensures)
    (c.word.ensures ▹ c.decimal.ensures ▹ c.decimal-2.ensures ▹ c.put_all.ensures)
