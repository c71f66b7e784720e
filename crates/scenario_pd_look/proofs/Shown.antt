-- What reading a slot shows, in words.
-- Assumes nothing.
use Rattle.std.proofs.Common.{◌≡◌, ℕ, min, List, ◌++◌, length, take, sym, ap, ap₂, ◌∙◌}
use Rattle.std.proofs.lemmas.List.{take_min}
use Rattle.std.specs.Prelude.{Ok, Err}
use Rattle.refusal.specs.declared.Refusal.{Refusal}
use Rattle.refusal.specs.Refusal.{number}
use Rattle.answer.specs.Answer.{octets, refused as refused_words}
use Rattle.subscription.specs.declared.Subscription.{Subscription}
use Rattle.subscription_table.specs.Table.{Table, read, step}
use Rattle.subscription_decisions.specs.declared.View.{View}
use Rattle.subscription_decisions.specs.Read.{octets_of}
use Rattle.subscriptions.specs.Read.{Reads}
use Rattle.lent.specs.declared.Slots.{Slots}
use Rattle.lent.specs.Lent.{lent_of}
use Rattle.scenario_pd_words.specs.Words.{answer_words, state_words}

-- what is lent
pub lends : (t : Slots) (store : List ℕ) (n m : ℕ) → n ≡ min t.lent (length t.records)
    → m ≡ min t.octets (length store) → record { records = take n t.records; store = take m store } ≡ lent_of t store
lends t store n m e f =
    ap₂ (λ (x : List Subscription) (y : List ℕ). record { records = x; store = y })
    (ap (λ (j : ℕ). take j t.records) e ∙ take_min t.lent t.records)
    (ap (λ (j : ℕ). take j store) f ∙ take_min t.octets store)

module _ (k : ℕ) (set : List ℕ) (u : Table) where
  -- a state and octets
  pub shows : {t : Table} → t ≡ u → (v : View) {o : List ℕ} → Reads k u.records u.store (Ok v)
      → o ≡ octets_of (step (read k set) t).answer
      → state_words v.state ++ octets o ≡ answer_words (step (read k set) u).answer
  shows e v r d =
      ap (λ (x : List ℕ). state_words v.state ++ octets x)
      (d ∙ ap (λ (x : Table). octets_of (step (read k set) x).answer) e ∙ sym (ap octets_of (r.answers set)))
      ∙ ap answer_words (r.answers set)

  -- a refusal
  pub refuses : (x : Refusal) → Reads k u.records u.store (Err x)
      → refused_words (number x) ≡ answer_words (step (read k set) u).answer
  refuses x r = ap answer_words (r.answers set)
