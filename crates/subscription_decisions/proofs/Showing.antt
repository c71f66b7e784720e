-- The octets that a record shows, as a part of the store or of the substitute set.
-- Assumes nothing.
use Prim.Native.Nat.{ℕ, zero, suc, ◌+◌, ◌*◌, ◌<◌, ◌≤◌}
use native.Mathlib.Omega.{arith}
use mathlib.Core.Path.{◌≡◌, refl}
use mathlib.Core.List.{List, [], ◌∷◌}
use mathlib.Core.Bool.{Bool, true, false}
use lib.Dec.{ltb, leb}
use lib.ListN.{length, drop}
use lib.Seq.{take-nil}
use borrow.Author.Tests.{ltb-false, leb-false}
use Rattle.octets.specs.Octets.{part}
use Rattle.subscription_table.specs.Slot.{slot_octets}
use Rattle.subscription_table.specs.Table.{fits}
use Rattle.subscription.specs.declared.Subscription.{Subscription}
use Rattle.subscription_table.proofs.Lent.{fits-means}
use Rattle.subscription_step.specs.Step.{stored_at, shown_at}
use Rattle.subscription.specs.Record.{in_use}
use Rattle.subscription_decisions.specs.declared.View.{View}
use Rattle.std.specs.Prelude.{Ok, Err}
use Rattle.refusal.specs.declared.Refusal.TheVariants as refusal
use Rattle.subscription_decisions.specs.Read.{read_by, shown, octets_of}

drop_past : (n : ℕ) (xs : List ℕ) → length xs ≤ n → drop n xs ≡ []
drop_past zero [] h = refl
drop_past zero (x ∷ xs) h = absurd (omega arith)
drop_past (suc n) [] h = refl
drop_past (suc n) (x ∷ xs) h = drop_past n xs (omega arith)

-- where sizes fit, the first octets of a part lie in the store, or there is no such part
stored_is : (n k m : ℕ) (st : List ℕ) → fits n (length st) ≡ true → m ≤ slot_octets
    → stored_at k m st ≡ part m (k * slot_octets) st
unfolding slot_octets
stored_is n k m st f h = go (leb (k * 1432 + m) (length st)) refl
  where
    go : (b : Bool) → leb (k * 1432 + m) (length st) ≡ b → stored_at k m st ≡ part m (k * 1432) st
    go true e = rw e refl
    go false e =
        let far : length st < k * 1432 + m = leb-false (k * 1432 + m) (length st) e in
        let size : length st ≡ n * 1432 = (fits-means n (length st) f).1 in
        let past : length st ≤ k * 1432 = omega (arith, far, size, h) in
        rw (e, drop_past (k * 1432) st past, take-nil m) refl

-- what a record shows is what reading it answers
pub record-shows : (n k : ℕ) (r : Subscription) (set st : List ℕ) (v : View) → read_by (fits n (length st)) r ≡ Ok v
    → shown_at r k st set ≡ octets_of (shown k set st (read_by (fits n (length st)) r))
record-shows n k r set st v e = go (fits n (length st)) (in_use r) (ltb slot_octets r.length) refl refl refl
  where
    go : (b u l : Bool) → fits n (length st) ≡ b → in_use r ≡ u → ltb slot_octets r.length ≡ l
        → shown_at r k st set ≡ octets_of (shown k set st (read_by (fits n (length st)) r))
    go false u l f g h = let z : Err refusal.Sizes ≡ Ok v = rw f at e in grind arith
    go true false l f g h = let z : Err refusal.NoSlot ≡ Ok v = rw (f, g) at e in grind arith
    go true true true f g h = let z : Err refusal.Sizes ≡ Ok v = rw (f, g, h) at e in grind arith
    go true true false f g h = rw (stored_is n k r.length st f (ltb-false slot_octets r.length h), f, g, h) refl
