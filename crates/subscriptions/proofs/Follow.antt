-- From a sweep to the table's rules: a telegram that passed, and the clock, at every slot.
-- Assumes nothing.
use Prim.Native.Nat.{ℕ, suc, ◌+◌, ◌*◌, ◌≤◌}
use native.Mathlib.Omega.{arith}
use native.Mathlib.Nat.{zero-add, zero-mul, suc-mul}
use mathlib.Core.Path.{◌≡◌, refl, sym, ◌∙◌, ap}
use mathlib.Core.List.{List, [], ◌∷◌, ◌++◌, map}
use mathlib.Core.Bool.{Bool, true, false, cond, ◌||◌}
use lib.Dec.{ltb}
use lib.ListN.{length, take, drop, length-drop}
use lib.Seq.{length-take-le}
use borrow.Author.Tests.{le-leb, lt-ltb}
use Rattle.tables.specs.Lists.{count, any}
use Rattle.subscription.specs.Record.{record_wants, record_takes, record_due}
use Rattle.subscription_table.specs.Slot.{Cell, judged, passed, slot_octets, deliver, mark}
use Rattle.subscription_step.specs.Step.{record_after, part_after, changes, reaches, one, no_tally, tallied}
use Rattle.subscription_table.specs.Slot as slot
use Rattle.subscription_table.specs.Table as table
use Rattle.subscription_table.proofs.Flat.{records-parts, store-parts}
use Rattle.subscription_table.specs.Table.{Call, telegram, time_check, delivered_to, parts, records, store, slots, fits, step}
use Rattle.arrival.specs.declared.Arrival.{Arrival}
use Rattle.subscription_step.specs.declared.Event.{Event}
use Rattle.subscription_step.specs.declared.Event.TheVariants.{Telegram, Clock}
use Rattle.subscription.specs.declared.Heard.{Heard}
use Rattle.subscription.specs.declared.Subscription.{Subscription}
use Rattle.subscription_step.specs.declared.Tally.{Tally}
use Rattle.subscription_table.proofs.Fitting.{judged-fits}
use Rattle.subscription_table.proofs.Lent.{fits-means}
use Rattle.subscription_table.proofs.Stepping.{telegram-steps, clock-steps}
use Rattle.subscription_decisions.specs.Calls.{delivered_by}
use Rattle.subscriptions.specs.Sweep.{store_after, tally_after, Sweeps}
use Rattle.subscriptions.specs.Calls.{Follows}
use Rattle.std.specs.Prelude.{Ok, Err, Result}
use Rattle.refusal.specs.declared.Refusal.{Refusal}
use Rattle.refusal.specs.declared.Refusal.TheVariants as refusal

-- ---- the slots after an event that steps each of them by g

module _ (ev : Event) (d : List ℕ) (g : Cell → Cell)
    (steps : (x : Cell) → length x.octets ≡ slot_octets → g x ≡ record { slot = record_after ev (length d) x.slot; octets = part_after ev d x.slot x.octets }) where
  -- the first slot's part is whole, and the others' store follows it
  long : (st : List ℕ) (n : ℕ) → length st ≡ suc n * slot_octets
      → (length (take slot_octets st) ≡ slot_octets) × (length (drop slot_octets st) ≡ n * slot_octets)
  long st n e = (length-take-le slot_octets st (omega (arith, e, suc-mul n slot_octets)), length-drop slot_octets st ∙ omega (arith, e, suc-mul n slot_octets))

  pub records-swept : (rs : List Subscription) (st : List ℕ) → length st ≡ length rs * slot_octets
      → map (record_after ev (length d)) rs ≡ records (map g (parts rs st))
  unfolding parts
  records-swept [] st e = refl
  records-swept (r ∷ rs) st e =
      rw (steps (record { slot = r; octets = take slot_octets st }) (long st (length rs) e).0)
      (ap (λ l. record_after ev (length d) r ∷ l) (records-swept rs (drop slot_octets st) (long st (length rs) e).1))

  pub store-swept : (rs : List Subscription) (st : List ℕ) → length st ≡ length rs * slot_octets
      → store_after ev d rs st ≡ store (map g (parts rs st))
  unfolding parts
  store-swept [] [] e = refl
  store-swept [] (o ∷ st) e = let z : suc (length st) ≡ 0 = e ∙ zero-mul slot_octets in absurd (omega arith)
  store-swept (r ∷ rs) st e =
      rw (steps (record { slot = r; octets = take slot_octets st }) (long st (length rs) e).0)
      (ap (λ l. part_after ev d r (take slot_octets st) ++ l) (store-swept rs (drop slot_octets st) (long st (length rs) e).1))

-- ---- what was counted

counted : (b : Bool) (m n : ℕ) → m + one b + n ≡ m + cond b (suc n) n
counted true m n = omega arith
counted false m n = omega arith

pub tally-counts : (ev : Event) (n : ℕ) (rs : List Subscription) (t : Tally)
    → tally_after ev n rs t ≡ record { matched = t.matched + count (reaches ev) rs; changed = t.changed + count (changes ev n) rs }
tally-counts ev n [] t = let a : t.matched + 0 ≡ t.matched = omega arith in let b : t.changed + 0
    ≡ t.changed = omega arith in rw (a, b) refl
tally-counts ev n (r ∷ rs) t =
    rw (
      tally-counts ev n rs (tallied ev n r t),
      counted (reaches ev r) t.matched (count (reaches ev) rs),
      counted (changes ev n r) t.changed (count (changes ev n) rs),
    ) refl

pub tally-is : (ev : Event) (n : ℕ) (rs : List Subscription)
    → tally_after ev n rs no_tally ≡ record { matched = count (reaches ev) rs; changed = count (changes ev n) rs }
tally-is ev n rs = tally-counts ev n rs no_tally
    ∙ rw (zero-add (count (reaches ev) rs), zero-add (count (changes ev n) rs)) refl

pub ltb-one : (n : ℕ) → ltb 0 (suc n) ≡ true
ltb-one n = lt-ltb 0 (suc n) (omega arith)

-- a test of the record, at the slot
module _ (p q : Subscription → Bool) (same : (r : Subscription) → p r ≡ q r) where
  pub count-parts : (rs : List Subscription) (st : List ℕ) → count p rs ≡ count (λ x. q x.slot) (parts rs st)
  unfolding parts
  count-parts [] st = refl
  count-parts (r ∷ rs) st = rw (same r, count-parts rs (drop slot_octets st)) refl

  pub some-parts : (rs : List Subscription) (st : List ℕ) → ltb 0 (count p rs) ≡ any (λ x. q x.slot) (parts rs st)
  unfolding parts
  some-parts [] st = refl
  some-parts (r ∷ rs) st = rw (same r) (go (q r) (count p rs) (any (λ x. q x.slot) (parts rs (drop slot_octets st))) (some-parts rs (drop slot_octets st)))
    where
      go : (b : Bool) (n : ℕ) (a : Bool) → ltb 0 n ≡ a → ltb 0 (cond b (suc n) n) ≡ b || a
      go true n a e = ltb-one n
      go false n a e = e

-- ---- the calls

-- a sweep's answer to the clock
abbrev pub checked : Result Tally Refusal → table.Answer
checked (Ok t) = table.marked t.changed
checked (Err r) = table.refused r

-- a dataset that a part can hold is taken where the slot takes it
takes-is : (h : Heard) (n : ℕ) → n ≤ slot_octets → (r : Subscription) → changes (Telegram h) n r ≡ record_takes h r
unfolding slot_octets
takes-is h n k r = rw (le-leb n 1432 k) refl

pub telegram-follows : (a : Arrival) (telegram_octets : List ℕ) (h : Heard) (d : List ℕ) (rs : List Subscription) (st : List ℕ) (s : Result Tally Refusal) (rs' : List Subscription) (st' : List ℕ)
    → judged a telegram_octets ≡ passed h d → Sweeps (Telegram h) d rs st s rs' st'
    → Follows (telegram a telegram_octets) rs st (delivered_by s) rs' st'
unfolding step slots
telegram-follows a o h d rs st s rs' st' e w =
    let f = go (fits (length rs) (length st)) refl in
    record { answers = rw w.answers f.0; records-after = w.records-after ∙ f.1; store-after = w.store-after ∙ f.2 }
  where
    k : length d ≤ slot_octets
    k = judged-fits a o h d e

    go : (b : Bool) → fits (length rs) (length st) ≡ b
        → let x = step (telegram a o) (record { records = rs; store = st }) in
        (delivered_by (cond b (Ok (tally_after (Telegram h) (length d) rs no_tally)) (Err refusal.Sizes)) ≡ x.answer)
        × (cond b (map (record_after (Telegram h) (length d)) rs) rs ≡ x.after.records)
        × (cond b (store_after (Telegram h) d rs st) st ≡ x.after.store)
    go true f =
        let long = (fits-means (length rs) (length st) f).1 in
        rw (
          f,
          e,
          tally-is (Telegram h) (length d) rs,
          count-parts (changes (Telegram h) (length d)) (record_takes h) (takes-is h (length d) k) rs st,
          some-parts (record_wants h) (record_wants h) (λ r. refl) rs st,
          records-swept (Telegram h) d (deliver h d) (λ x _. telegram-steps h d x k) rs st long,
          store-swept (Telegram h) d (deliver h d) (λ x _. telegram-steps h d x k) rs st long,
        ) (refl, refl, refl)
    go false f = rw f (refl, refl, refl)

-- 2 to 7: all stays
pub refused-telegram-follows : (a : Arrival) (o : List ℕ) (r : Refusal) (rs : List Subscription) (st : List ℕ)
    → fits (length rs) (length st) ≡ true
    → slot.refusal r ≡ judged a o → Follows (telegram a o) rs st (table.refused r) rs st
unfolding step slots
refused-telegram-follows a o r rs st f e =
    record {
      answers = rw (f, ← e) refl;
      records-after = rw (f, ← e) (sym (records-parts rs st));
      store-after = rw (f, ← e) (sym (store-parts rs st (fits-means (length rs) (length st) f).1));
    }

pub clock-follows : (time : ℕ) (d : List ℕ) (rs : List Subscription) (st : List ℕ) (s : Result Tally Refusal) (rs' : List Subscription) (st' : List ℕ)
    → Sweeps (Clock time) d rs st s rs' st' → Follows (time_check time) rs st (checked s) rs' st'
unfolding step slots
clock-follows time d rs st s rs' st' w =
    let f = go (fits (length rs) (length st)) refl in
    record { answers = rw w.answers f.0; records-after = w.records-after ∙ f.1; store-after = w.store-after ∙ f.2 }
  where
    go : (b : Bool) → fits (length rs) (length st) ≡ b
        → let x = step (time_check time) (record { records = rs; store = st }) in
        (checked (cond b (Ok (tally_after (Clock time) (length d) rs no_tally)) (Err refusal.Sizes)) ≡ x.answer)
        × (cond b (map (record_after (Clock time) (length d)) rs) rs ≡ x.after.records)
        × (cond b (store_after (Clock time) d rs st) st ≡ x.after.store)
    go true f =
        let long = (fits-means (length rs) (length st) f).1 in
        rw (
          f,
          tally-is (Clock time) (length d) rs,
          count-parts (record_due time) (record_due time) (λ r. refl) rs st,
          records-swept (Clock time) d (mark time) (clock-steps time d) rs st long,
          store-swept (Clock time) d (mark time) (clock-steps time d) rs st long,
        ) (refl, refl, refl)
    go false f = rw f (refl, refl, refl)
