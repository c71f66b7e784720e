-- The law of a slot watched in a larger state: it is seen as the slot alone, since calls of other tables leave its
-- table as it is.
use mathlib.Core.Path.{◌≡◌, refl, ◌∙◌}
use mathlib.Core.Logic.{◌⊎◌, inl, inr}
use mathlib.Core.Bool.{Bool, cond}
use mathlib.Core.List.{List, [], ◌∷◌}
use mathlib.Core.Option.{Option, none, some}
use native.Mathlib.Omega.{arith}
use Rattle.tables.specs.Trace.{Outcome, run}
use Rattle.tables.specs.Watch.{Watch, watched, told, watched_alone}
use Rattle.tables.specs.View.{View, viewed}
use Rattle.tables.proofs.Watch.{Follows, same-watch}

module _ {C A T D B S : Type 0} (v : View C A T D B S) (step : D → S → Outcome B S) (own : C → T → Outcome A T) where
  -- the state steps by the table's rules at the table's calls, and leaves the table at all others
  pub record Stands : Type 0 where
    pub part-whole : (t : T) → v.part (v.whole t) ≡ t
    pub own-call : (c : C) → v.own_call (v.call c) ≡ some c
    pub sorts : (d : D) → (v.own_call d ≡ none) ⊎ ((c : C) × (d ≡ v.call c))
    pub answers : (c : C) (s : S) → v.own_answer (step (v.call c) s).answer ≡ some (own c (v.part s)).answer
    pub leaves : (c : C) (s : S) → v.part (step (v.call c) s).after ≡ (own c (v.part s)).after
    pub whole-leaves : (c : C) (t : T) → (step (v.call c) (v.whole t)).after ≡ v.whole (own c t).after
    pub others : (d : D) (s : S) → v.own_call d ≡ none → v.part (step d s).after ≡ v.part s

pub none-either : {X : Type 0} (b : Bool) → ◌≡◌ {A = Option X} (cond b none none) none
none-either b = grind arith

module _ {C A T D B S : Type 0} (v : View C A T D B S) (step : D → S → Outcome B S) (w : Watch C A T)
    (ok : Stands v step w.step) (Held : T → Type 0)
    (each : (c : C) (t : T) → Held t → Follows w Held c t) where
  follows : (d : D) (s : S) → Held (v.part s) → Follows (viewed v step w) (λ s'. Held (v.part s')) d s
  follows d s h = grind arith

  -- over every list of the state's calls the slot is seen as the slot alone
  pub same_view : (ds : List D) (s : S) → Held (v.part s)
      → watched (viewed v step w) ds s ≡ watched_alone (viewed v step w) (told (viewed v step w) ds s)
      (v.whole (w.slot (v.part s)))
  same_view ds s h = same-watch (viewed v step w) (λ s'. Held (v.part s')) follows ds s h

abbrev before : {X : Type 0} → Option X → List X → List X
before none xs = xs
before (some x) xs = x ∷ xs

module _ {C A T D B S : Type 0} (v : View C A T D B S) (step : D → S → Outcome B S) (own : C → T → Outcome A T)
    (ok : Stands v step own) where
  -- the table's own calls among the state's
  abbrev pub owns : List D → List C
  owns [] = []
  owns (d ∷ ds) = before (v.own_call d) (owns ds)

  -- a list of calls leaves the table as its own calls among them do
  pub run-part : (ds : List D) (s : S) → v.part (run step ds s) ≡ run own (owns ds) (v.part s)
  run-part [] s = refl
  run-part (d ∷ ds) s = run-part ds (step d s).after ∙ by (ok.sorts d)
    where
      by : (v.own_call d ≡ none) ⊎ ((c : C) × (d ≡ v.call c))
          → run own (owns ds) (v.part (step d s).after) ≡ run own (owns (d ∷ ds)) (v.part s)
      by (inl e) = rw (e, ok.others d s e) refl
      by (inr p) = rw (p.1, ok.own-call p.0, ok.leaves p.0 s) refl
