-- Sizes that fit; and those that do not, with which all stays.
-- Assumes nothing.
use Rattle.std.proofs.Common.{◌≡◌, refl, ℕ, suc, ◌+◌, ◌*◌, ◌<◌, ◌≤◌, List, Bool, true, false, cond, not, length, arith}
use native.Mathlib.Nat.{suc-mul, mul-le-mul_right}
use Rattle.std.specs.Prelude.{Ok, Err, Result}
use Rattle.std.specs.Result.{IsErrAnd}
use Rattle.refusal.specs.declared.Refusal.{Refusal}
use Rattle.refusal.specs.declared.Refusal.TheVariants as refusal
use Rattle.refusal.specs.Refusal.{first_of}
use Rattle.subscription.specs.declared.Subscription.{Subscription}
use Rattle.subscription_table.specs.Slot.{slot_octets}
use Rattle.subscription_table.specs.Table as table
use Rattle.subscription_table.specs.Table.{Call, fits, step}
use Rattle.subscription_table.proofs.Lent.{fits-means}
use Rattle.subscription_decisions.specs.Calls.{size_checks, told}
use Rattle.subscriptions.specs.Calls.{Follows}

abbrev pub sized : Bool → Result (Unit {0}) Refusal
sized b = cond (not b) (Err refusal.Sizes) (Ok tt)

pub fitting : (n m : ℕ) → first_of (size_checks n m) ≡ Ok tt → fits n m ≡ true
fitting n m e = go (fits n m) refl e
  where
    go : (b : Bool) → fits n m ≡ b → sized b ≡ Ok tt → fits n m ≡ true
    go true f h = f
    go false f h = grind arith

-- 1: all stays
pub unfit-follows : (c : Call) (rs : List Subscription) (st : List ℕ) (r : Refusal)
    → first_of (size_checks (length rs) (length st)) ≡ Err r
    → Follows c rs st (table.refused r) rs st
unfolding step
unfit-follows c rs st r e = go (fits (length rs) (length st)) refl e
  where
    go : (b : Bool) → fits (length rs) (length st) ≡ b → sized b ≡ Err r → Follows c rs st (table.refused r) rs st
    go true f h = grind arith
    go false f h =
        let e : refusal.Sizes ≡ r = grind arith in
        record { answers = rw (← e, f) refl; records-after = rw f refl; store-after = rw f refl }

-- slot k's part lies in the store
pub part-in : (rs : List Subscription) (st : List ℕ) (k : ℕ) → fits (length rs) (length st) ≡ true → k < length rs
    → k * 1432 + 1432 ≤ length st
unfolding slot_octets
part-in rs st k f h =
    let m = (fits-means (length rs) (length st) f).1 in
    let l : suc k * 1432 ≤ length rs * 1432 = mul-le-mul_right 1432 h in
    omega (arith, m, l, suc-mul k 1432)

-- what a `?` passes on
pub told-err : {G : Type 0} (says : G → table.Answer) (x : Result G Refusal) (r : Refusal) → IsErrAnd x (λ y. y ≡ r)
    → told says x ≡ table.refused r
told-err says (Ok g) r e = absurd e
told-err says (Err y) r e = rw e refl
