-- The first kind that has words; else the line is bad, and all is as it was.
use mathlib.Core.Path.{sym, ◌∙◌}
use mathlib.Core.List.{List}
use mathlib.Core.Option.{some}
use Prim.Native.Nat.{ℕ}
use Rattle.answer.specs.Answer.{word}
use Rattle.scenario_calls.specs.declared.State.{State}
use Rattle.scenario_calls.specs.Calls.{Effect, or_else, or_next, saying, lending, with_slots, with_numbers}
use Rattle.scenario_calls.specs.Calls.{plain_effect, data_effect, effect_of}
use Rattle.scenario_calls.proofs.Calls.{found, then, ended, bad, first_left, then_left, slots_left, run_left}
use Rattle.scenario_calls.proofs.Calls.{process_keeps, data_keeps, plain_stays}
use Rattle.scenario_calls.proofs.State.answer.Goals as goal

-- the last kind, or a bad line
abbrev last : List ℕ → State → List ℕ → List ℕ → Effect
last s x ds st = lending (or_next (plain_effect x s) (saying (some (word "bad line")) x)) ds st

-- the description run, or the last kind
abbrev later : List ℕ → State → List ℕ → List ℕ → Effect
later s x ds st = or_else (data_effect x ds st s) (last s x ds st)

pub returns-then-is_some : goal.returns-then-is_some
unfolding effect_of
returns-then-is_some c =
    let a = c.args in
    first_left (slots_left a.self.now a.descriptions.now a.store.now a.s.now c.answer.ensures)
    (later a.s.now a.self.now a.descriptions.now a.store.now)
    (sym c.is_some.ensures ∙ c.if-is_some.true)

pub returns-then-is_some-2 : goal.returns-then-is_some-2
unfolding effect_of
returns-then-is_some-2 c =
    let a = c.args in
    let y : State = with_slots c.answer.new.t c.answer.new.statistics a.self.now in
    then_left (slots_left a.self.now a.descriptions.now a.store.now a.s.now c.answer.ensures) (later a.s.now)
    (sym c.is_some.ensures ∙ c.if-is_some.false) (process_keeps a.self.now a.descriptions.now a.store.now a.s.now)
    (first_left (run_left y a.descriptions.now c.answer.new.store a.s.now c.answer-2.ensures)
    (last a.s.now y a.descriptions.now c.answer.new.store)
    (sym c.is_some-2.ensures ∙ c.if-is_some-2.true))

pub returns : goal.returns
unfolding effect_of
returns c =
    let a = c.args in
    let y : State = with_slots c.answer.new.t c.answer.new.statistics a.self.now in
    let z : State = with_numbers c.answer-2.new.numbers y in
    then_left (slots_left a.self.now a.descriptions.now a.store.now a.s.now c.answer.ensures) (later a.s.now)
    (sym c.is_some.ensures ∙ c.if-is_some.false) (process_keeps a.self.now a.descriptions.now a.store.now a.s.now)
    (then_left (run_left y a.descriptions.now c.answer.new.store a.s.now c.answer-2.ensures) (last a.s.now)
    (sym c.is_some-2.ensures ∙ c.if-is_some-2.false) (data_keeps y a.descriptions.now c.answer.new.store a.s.now)
    (ended c.answer-2.new.run c.answer.new.store
    (then c.plain.ensures (sym c.is_some-3.ensures ∙ c.if-is_some-3.false) (λ x. saying (some (word "bad line")) x)
    (plain_stays z a.s.now)
    (bad c.plain.new.self c.word.ensures))))

pub returns-then-is_some-3 : goal.returns-then-is_some-3
unfolding effect_of
returns-then-is_some-3 c =
    let a = c.args in
    let y : State = with_slots c.answer.new.t c.answer.new.statistics a.self.now in
    let z : State = with_numbers c.answer-2.new.numbers y in
    then_left (slots_left a.self.now a.descriptions.now a.store.now a.s.now c.answer.ensures) (later a.s.now)
    (sym c.is_some.ensures ∙ c.if-is_some.false) (process_keeps a.self.now a.descriptions.now a.store.now a.s.now)
    (then_left (run_left y a.descriptions.now c.answer.new.store a.s.now c.answer-2.ensures) (last a.s.now)
    (sym c.is_some-2.ensures ∙ c.if-is_some-2.false) (data_keeps y a.descriptions.now c.answer.new.store a.s.now)
    (ended c.answer-2.new.run c.answer.new.store
    (found c.plain.ensures (saying (some (word "bad line")) z)
    (sym c.is_some-3.ensures ∙ c.if-is_some-3.true))))
