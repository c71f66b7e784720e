-- A refused call leaves records and store as they were.
-- Assumes nothing.
use mathlib.Core.Path.{◌≡◌, refl, ap, ◌∙◌}
use mathlib.Core.Bool.{Bool, true, false, cond, not}
use mathlib.Core.List.{List, [], ◌∷◌, map}
use mathlib.Core.Option.{Option}
use Prim.Native.Nat.{ℕ, zero, suc}
use native.Mathlib.Omega.{arith}
use lib.ListN.{length, get_or, set}
use lib.Seq.{set-get_or}
use Rattle.refusal.specs.declared.Refusal.{Refusal}
use Rattle.refusal.specs.declared.Refusal.TheVariants as refusal
use Rattle.tables.specs.Trace.{Outcome}
use Rattle.tables.specs.Lists.{any, count, lowest, grant, at_slot}
use Rattle.subscription.specs.Record.{in_use, unsound}
use Rattle.subscription_table.specs.Slot.{Judged, refusal, passed, judged, Cell, free_cell, granted_cell, wants, takes}
use Rattle.subscription_table.specs.Slot.{taken}
use Rattle.subscription_table.specs.Table.{Call, subscribe, unsubscribe, telegram, time_check, read, Answer, granted}
use Rattle.subscription_table.specs.Table.{refused, early, delivered_to, unsubscribed, arriving, holds, slots, Table}
use Rattle.subscription_table.specs.Table.{parts, lent_after, fits, step}
use Rattle.subscription_table.proofs.Lent.{fits-means}
use Rattle.subscription_table.proofs.Flat.{records-parts, store-parts}

-- a choice between two outcomes
chosen : {T : Type 0} (b : Bool) (x y : Outcome Answer T) (t : T) (n : Refusal)
    → (b ≡ true → x.answer ≡ refused n → x.after ≡ t) → y.after ≡ t
    → (cond b x y).answer ≡ refused n → (cond b x y).after ≡ t
chosen b x y t n f g e = grind arith

-- where none passes, a step that changes only those that pass changes none
unchanged : {X : Type 0} (p : X → Bool) (f : X → X) (xs : List X) → count p xs ≡ 0
    → map (λ x. cond (p x) (f x) x) xs ≡ xs
unchanged p f [] e = refl
unchanged p f (x ∷ xs) e = go (p x) (unchanged p f xs) e
  where
    go : (b : Bool) → (count p xs ≡ 0 → map (λ y. cond (p y) (f y) y) xs ≡ xs)
        → cond b (suc (count p xs)) (count p xs) ≡ 0
        → cond b (f x) x ∷ map (λ y. cond (p y) (f y) y) xs ≡ x ∷ xs
    go true ih z = absurd (omega arith)
    go false ih z = ap (λ l. x ∷ l) (ih z)

grant-refused : (e : Option Answer) (k : Option ℕ) (x : Cell) (xs : List Cell) (n : Refusal)
    → (grant e k (refused refusal.NoFreeSlot) granted x xs).answer ≡ refused n
    → (grant e k (refused refusal.NoFreeSlot) granted x xs).after ≡ xs
unfolding grant
grant-refused h k x xs n e = grind arith

unsubscribed-refused : (x : Cell) (n : Refusal) → (unsubscribed x).answer ≡ refused n → (unsubscribed x).after ≡ x
unsubscribed-refused x n = grind arith

arriving-refused : (j : Judged) (xs : List Cell) (n : Refusal) → (arriving j xs).answer ≡ refused n
    → (arriving j xs).after ≡ xs
arriving-refused (refusal r) xs n e = refl
arriving-refused (passed h dataset) xs n e =
    unchanged (takes h) (taken h dataset) xs (none-took (any (wants h) xs) (count (takes h) xs) refl e)
  where
    none-took : (b : Bool) (k : ℕ) → count (takes h) xs ≡ k → delivered_to b k ≡ refused n → count (takes h) xs ≡ 0
    none-took true zero q z = q
    none-took false zero q z = q
    none-took b (suc k) q z = grind arith

slots-refused : (c : Call) (xs : List Cell) (n : Refusal) → (slots c xs).answer ≡ refused n → (slots c xs).after ≡ xs
unfolding slots at_slot
slots-refused (subscribe q time) xs n e =
    grant-refused (early (unsound q.filter) (any (holds q) xs)) (lowest (λ x. not (in_use x.slot)) xs)
    (granted_cell q time) xs n e
slots-refused (unsubscribe k) xs n e = ap (set xs k) (unsubscribed-refused (get_or xs k free_cell) n e)
    ∙ set-get_or xs k free_cell
slots-refused (telegram a d) xs n e = arriving-refused (judged a d) xs n e
slots-refused (time_check time) xs n e = grind arith
slots-refused (read k set) xs n e = set-get_or xs k free_cell

pub refused-leaves : (c : Call) (t : Table) (n : Refusal) → (step c t).answer ≡ refused n → (step c t).after ≡ t
unfolding step
refused-leaves c t n =
    let xs : List Cell = parts t.records t.store in
    chosen (fits (length t.records) (length t.store)) (lent_after (slots c xs))
    (record { answer = refused refusal.Sizes; after = t }) t n
    (λ f e.
    let m = fits-means (length t.records) (length t.store) f in
    rw (slots-refused c xs n e, records-parts t.records t.store, store-parts t.records t.store m.1) refl)
    refl
