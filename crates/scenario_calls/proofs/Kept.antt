-- A line over subscriptions that says nothing leaves slots, store and statistics as they were.
-- Assumes nothing.
use mathlib.Core.Path.{◌≡◌, refl, ap}
use mathlib.Core.Bool.{Bool, true, false, cond, ◌&&◌, true≢false}
use mathlib.Core.List.{List}
use mathlib.Core.Option.{Option, none, some}
use Prim.Native.Nat.{ℕ}
use lib.Dec.{ltb, leb}
use lib.ListN.{length, get_or}
use Rattle.topography.specs.declared.TopoCounts.{TopoCounts}
use Rattle.statistics.specs.declared.Statistics.{Statistics}
use Rattle.subscription.specs.Record.{in_use, free_record}
use Rattle.subscription_table.specs.Table.{Call}
use Rattle.line.specs.Line.{verb_is}
use Rattle.answer.specs.Answer.{ascii}
use Rattle.lent.specs.declared.Slots.{Slots}
use Rattle.scenario_pd.specs.Effect.{Effect, calling, counting}
use Rattle.scenario_pd.specs.Lines.{Wanted, calls, lends, damages, doing, lend_asked, damage_asked}
use Rattle.scenario_pd.specs.Lines.{sub_call, unsub_call, check_call, pd_call, lending, damaging, own_effect}
use Rattle.scenario_pd.specs.Lines.{other_effect, effect_of, statistics_of}

abbrev has : {A : Type 0} → Option A → Bool
has none = false
has (some x) = true

some_not_none : {A : Type 0} {x : A} → some x ≡ none → ⊥
some_not_none e = true≢false (ap has e)

module _ (t : Slots) (st : List ℕ) where
  pub record Kept (e : Effect) : Type 0 where
    pub kept : e.words ≡ none → (e.slots ≡ t) × (e.store ≡ st)

  either_kept : (b : Bool) {e f : Effect} → Kept e → Kept f → Kept (cond b e f)
  either_kept true p q = p
  either_kept false p q = q

  call_kept : (c : Option Call) → Kept (calling c t st)
  unfolding calling
  call_kept none = record { kept = λ n. (refl, refl) }
  call_kept (some c) = record { kept = λ n. absurd (some_not_none n) }

  doing_kept : (w : Option Wanted) → Kept (doing w t st)
  doing_kept none = record { kept = λ n. (refl, refl) }
  doing_kept (some (calls c)) = call_kept (some c)
  doing_kept (some (lends slots count)) =
      either_kept (leb slots 40 && leb count (length st))
      (record { kept = λ n. absurd (some_not_none n) })
      (record { kept = λ n. (refl, refl) })
  doing_kept (some (damages k n)) =
      either_kept (ltb k 32 && in_use (get_or t.records k free_record))
      (record { kept = λ n. absurd (some_not_none n) })
      (record { kept = λ n. absurd (some_not_none n) })

  module _ (s : List ℕ) where
    own_kept : Kept (own_effect s t st)
    unfolding own_effect lending damaging
    own_kept =
        either_kept (verb_is s (ascii "lend")) (doing_kept (lend_asked s))
        (either_kept (verb_is s (ascii "damage")) (doing_kept (damage_asked s)) (record { kept = λ n. (refl, refl) }))

    other_kept : Kept (other_effect s t st)
    unfolding other_effect
    other_kept =
        either_kept (verb_is s (ascii "sub")) (call_kept (sub_call s))
        (either_kept (verb_is s (ascii "unsub")) (call_kept (unsub_call s))
        (either_kept (verb_is s (ascii "check")) (call_kept (check_call s)) own_kept))

pub effect_kept : (counters : TopoCounts) (s : List ℕ) (t : Slots) (st : List ℕ) → Kept t st (effect_of counters s t st)
effect_kept counters s t st =
    either_kept t st (verb_is s (ascii "pd")) (call_kept t st (pd_call counters s)) (other_kept t st s)

-- nothing is counted
no_call : (c : Option Call) (t : Slots) (st : List ℕ) (n : Statistics) → (calling c t st).words ≡ none →
    counting c t st n ≡ n
unfolding calling counting
no_call none t st n e = refl
no_call (some c) t st n e = absurd (some_not_none e)

pub uncounted : (counters : TopoCounts) (s : List ℕ) (t : Slots) (st : List ℕ) (n : Statistics) →
    (effect_of counters s t st).words ≡ none → statistics_of counters s t st n ≡ n
uncounted counters s t st n e = go (verb_is s (ascii "pd")) e
  where
    go : (b : Bool) → (cond b (calling (pd_call counters s) t st) (other_effect s t st)).words ≡ none →
        cond b (counting (pd_call counters s) t st n) n ≡ n
    go true d = no_call (pd_call counters s) t st n d
    go false d = refl
