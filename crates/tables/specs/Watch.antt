-- One slot of a table watched over a list of calls, from its grant through the call that frees it; and the slot alone,
-- fed the calls that are not struck out.
use Rattle.std.specs.Prelude.{Bool, cond, List, [], ◌∷◌}
use Rattle.std.proofs.Math.Option.{Option, none, some}
use Rattle.tables.specs.Trace.{Outcome}

-- a table's rules, and a slot of it: the slot alone, a table of one slot, and whether that is free; how it is fed a
-- call (none: struck out); what it hears of an answer to a call (none: the call does not name it), and of the slot
-- alone's, its number kept; which answers are refusal 1
pub record Watch (C A T : Type 0) : Type 0 where
  pub step : C → T → Outcome A T
  pub slot : T → T
  pub free : T → Bool
  pub fed : C → Option C
  pub hears : C → A → Option A
  pub hears_alone : C → A → Option A
  pub gave1 : A → Bool

-- what is seen of a slot after a call: the slot, and the answer to a call that names it and is not struck out
pub record Seen (A T : Type 0) : Type 0 where
  pub slot : T
  pub answer : Option A

-- a call, and whether it gave 1: all that the slot alone is told of the answers, but for its number
pub record Told (C : Type 0) : Type 0 where
  pub call : C
  pub one : Bool

module _ {C A T : Type 0} (w : Watch C A T) where
  -- through the call that frees it
  abbrev pub through : Seen A T → List (Seen A T) → List (Seen A T)
  through s rest = s ∷ cond (w.free s.slot) [] rest

  -- the slot in the table
  unfoldable pub watched : List C → T → List (Seen A T)
  watched [] t = []
  watched (c ∷ cs) t =
      let o = w.step c t in
      through (record { slot = w.slot o.after; answer = cond (w.gave1 o.answer) none (w.hears c o.answer) })
      (watched cs o.after)

  abbrev pub told : List C → T → List (Told C)
  told [] t = []
  told (c ∷ cs) t = record { call = c; one = w.gave1 (w.step c t).answer } ∷ told cs (w.step c t).after

  abbrev pub fed_unless : Bool → C → Option C
  fed_unless one c = cond one none (w.fed c)

  abbrev pub step_if : Option C → T → T
  step_if none t = t
  step_if (some c) t = (w.step c t).after

  abbrev pub answer_if : C → Option C → T → Option A
  answer_if c none t = none
  answer_if c (some own) t = w.hears_alone c (w.step own t).answer

  -- the slot alone
  unfoldable pub watched_alone : List (Told C) → T → List (Seen A T)
  watched_alone [] t = []
  watched_alone (c ∷ cs) t =
      let f = fed_unless c.one c.call in
      through (record { slot = step_if f t; answer = answer_if c.call f t }) (watched_alone cs (step_if f t))
