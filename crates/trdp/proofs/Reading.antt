-- A slot that shows something is one of the table's.
-- Assumes nothing.
use Prim.Native.Nat.{ℕ, ◌<◌, ◌≤◌}
use native.Mathlib.Omega.{arith}
use mathlib.Core.Path.{◌≡◌, refl}
use mathlib.Core.List.{List}
use mathlib.Core.Bool.{Bool, true, false}
use lib.Dec.{ltb}
use lib.ListN.{length, get_or}
use borrow.Author.Tests.{ltb-true}
use Rattle.std.specs.Prelude.{IfOk, Ok, Err, Result}
use Rattle.refusal.specs.declared.Refusal.{Refusal}
use Rattle.subscription.specs.Record.{free_record}
use Rattle.subscription_table.specs.Table.{fits}
use Rattle.subscription.specs.declared.Subscription.{Subscription}
use Rattle.subscription_table.proofs.Lent.{fits-means}
use Rattle.subscription_decisions.specs.Read.{read_by}
use Rattle.subscription_decisions.specs.declared.View.{View}
use Rattle.subscriptions.proofs.Viewing.{not_there}

pub slot-there : (k : ℕ) (rs : List Subscription) (st : List ℕ)
    → IfOk (read_by (fits (length rs) (length st)) (get_or rs k free_record)) (λ _. k < 32)
slot-there k rs st = go (fits (length rs) (length st)) refl (ltb k (length rs)) refl
  where
    within : k < 32 → (x : Result View Refusal) → IfOk x (λ _. k < 32)
    within lt (Ok v) = lt
    within lt (Err r) = tt

    go : (f : Bool) → fits (length rs) (length st) ≡ f → (b : Bool) → ltb k (length rs) ≡ b
        → IfOk (read_by f (get_or rs k free_record)) (λ _. k < 32)
    go false f b h = tt
    go true f true h =
        let n : length rs ≤ 32 = (fits-means (length rs) (length st) f).0 in
        let m : k < length rs = ltb-true k (length rs) h in
        within (omega arith) (read_by true (get_or rs k free_record))
    go true f false h = rw (← not_there rs k h) tt
