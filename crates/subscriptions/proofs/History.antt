-- Over every list of calls, from given tables, the statistics are those of the history: each telegram that was not refused with 1, with its outcome.
-- Assumes nothing.
use Prim.Native.Nat.{ℕ, ◌<◌, ◌%◌, ◌^◌}
use mathlib.Core.Path.{◌≡◌, refl, sym, ◌∙◌, ap}
use mathlib.Core.Bool.{Bool, true, false, cond, ◌&&◌}
use mathlib.Core.List.{List, ◌∷◌}
use lib.Dec.{eqb}
use lib.ListN.{get_or}
use Rattle.telegram.specs.declared.Family.TheVariants.{Pd}
use Rattle.statistics.specs.declared.Statistics.{Statistics}
use Rattle.statistics.specs.Statistics.{added, no_statistics, Arrived, after_all}
use Rattle.statistics.proofs.History.{of-history, many, same, received-counts, delivered-counts, refused-counts}
use Rattle.subscription_table.specs.Table.{Call, subscribe, unsubscribe, telegram, time_check, read, Answer, Table, step}
use Rattle.subscriptions.specs.Receive.{statistics_after, statistics_over, entered, history}
use Rattle.subscription_decisions.specs.Receive.{uncounted, outcome_of}

counted-first : (b : Bool) (o : ℕ) (more : List Arrived) (s : Statistics)
    → cond b (after_all more s) (after_all more (added Pd o s))
    ≡ after_all (cond b more (record { family = Pd; outcome = o } ∷ more)) s
counted-first true o more s = refl
counted-first false o more s = refl

after-cond : (b : Bool) (more : List Arrived) (s u : Statistics)
    → after_all more (cond b s u) ≡ cond b (after_all more s) (after_all more u)
after-cond true more s u = refl
after-cond false more s u = refl

one-call : (c : Call) (x : Answer) (more : List Arrived) (s : Statistics)
    → after_all more (statistics_after c x s) ≡ after_all (entered c x more) s
one-call (subscribe q time) x more s = refl
one-call (unsubscribe k) x more s = refl
one-call (telegram a d) x more s = after-cond (uncounted x) more s (added Pd (outcome_of x) s)
    ∙ counted-first (uncounted x) (outcome_of x) more s
one-call (time_check time) x more s = refl
one-call (read k set) x more s = refl

pub statistics-of-history : (calls : List Call) (t : Table) (s : Statistics)
    → statistics_over calls t s ≡ after_all (history calls t) s
statistics-of-history =
    of-history
    (λ c t. (step c t).after)
    (λ c t. statistics_after c (step c t).answer)
    statistics_over
    history
    (λ t s. refl)
    (λ c calls t s. refl)
    (λ t s. refl)
    (λ c calls t s. sym (one-call c (step c t).answer (history calls (step c t).after) s))

-- from nothing counted: received, delivered and each refusal number count the telegrams of the history, modulo 2^32
module _ (calls : List Call) (t : Table) where
  pub pd-received : (statistics_over calls t no_statistics).pd.received
      ≡ many (λ a. same Pd a.family && true) (history calls t) % 2 ^ 32
  pd-received = ap (λ (s : Statistics). s.pd.received) (statistics-of-history calls t no_statistics)
      ∙ received-counts Pd (history calls t)

  pub pd-delivered : (statistics_over calls t no_statistics).pd.delivered
      ≡ many (λ a. same Pd a.family && eqb a.outcome 0) (history calls t) % 2 ^ 32
  pd-delivered = ap (λ (s : Statistics). s.pd.delivered) (statistics-of-history calls t no_statistics)
      ∙ delivered-counts Pd (history calls t)

  pub pd-refused : (n : ℕ) → 0 < n → n < 40
      → get_or (statistics_over calls t no_statistics).pd.refused n 0
      ≡ many (λ a. same Pd a.family && eqb a.outcome n) (history calls t) % 2 ^ 32
  pd-refused n p h = ap (λ (s : Statistics). get_or s.pd.refused n 0) (statistics-of-history calls t no_statistics)
      ∙ refused-counts n p h Pd (history calls t)
