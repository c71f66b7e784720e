-- The law of every table: a model whose state is seen as the table's, call by call, is seen as the table over every
-- list of calls.
use mathlib.Core.Path.{◌≡◌, refl}
use mathlib.Core.List.{List, [], ◌∷◌}
use Rattle.tables.specs.Trace.{Outcome, trace, run}

module _ {C A S T : Type 0} (step : C → T → Outcome A T) (model : C → S → Outcome A S) (seen : S → T)
    (Good : S → Type 0)
    (keeps : (c : C) (s : S) → Good s → Good (model c s).after)
    (agrees : (c : C) (s : S) → Good s → step c (seen s)
    ≡ record { answer = (model c s).answer; after = seen (model c s).after })
  where
    pub same-trace : (cs : List C) (s : S) → Good s → trace step (λ t. t) cs (seen s) ≡ trace model seen cs s
    same-trace [] s g = refl
    same-trace (c ∷ cs) s g = rw (agrees c s g) (rw (same-trace cs (model c s).after (keeps c s g)) refl)

    pub same-run : (cs : List C) (s : S) → Good s → run step cs (seen s) ≡ seen (run model cs s)
    same-run [] s g = refl
    same-run (c ∷ cs) s g = rw (agrees c s g) (same-run cs (model c s).after (keeps c s g))

    pub run-keeps : (cs : List C) (s : S) → Good s → Good (run model cs s)
    run-keeps [] s g = g
    run-keeps (c ∷ cs) s g = run-keeps cs (model c s).after (keeps c s g)
