-- What the code sees: flat records and a flat store. Reading and storing slot k there, in terms of the slots.
-- ---- the slots of flat records and store, and back
use mathlib.Core.Path.{◌≡◌, refl, sym, ap, ◌∙◌}
use mathlib.Core.List.{List, [], ◌∷◌, ◌++◌, append_assoc}
use Prim.Native.Nat.{ℕ, zero, suc, ◌*◌, ◌<◌}
use native.Mathlib.Nat.{zero-mul, suc-mul, add_comm, not-suc-le-zero, le_of_suc-le-suc}
use native.Mathlib.Omega.{arith}
use lib.ListN.{length, take, drop, get_or, set, length-drop, take-append-drop}
use lib.Seq.{drop-drop, take-add}
use Rattle.subscription_table.specs.Slot.{Cell, slot_octets, free_cell}
use Rattle.tables.specs.Trace.{Outcome}
use Rattle.tables.specs.Lists.{at_slot}
use Rattle.subscription_table.specs.Table.{Answer, parts, records, store, lent_after}
use Rattle.subscription.specs.declared.Subscription.{Subscription}

pub records-parts : (rs : List Subscription) (st : List ℕ) → records (parts rs st) ≡ rs
unfolding parts
records-parts [] st = refl
records-parts (r ∷ rs) st = ap (λ l. r ∷ l) (records-parts rs (drop slot_octets st))

-- past the first slot, the store is that of the others
shorter : (st : List ℕ) (n : ℕ) → length st ≡ suc n * slot_octets → length (drop slot_octets st) ≡ n * slot_octets
shorter st n e = length-drop slot_octets st ∙ omega (arith, e, suc-mul n slot_octets)

pub store-parts : (rs : List Subscription) (st : List ℕ) → length st ≡ length rs * slot_octets
    → store (parts rs st) ≡ st
unfolding parts
store-parts [] [] e = refl
store-parts [] (o ∷ st) e = grind arith
store-parts (r ∷ rs) st e =
    ap (λ l. take slot_octets st ++ l) (store-parts rs (drop slot_octets st) (shorter st (length rs) e))
    ∙ take-append-drop slot_octets st

-- ---- slot k is read and stored in place

pub parts_at : (rs : List Subscription) (st : List ℕ) (k : ℕ) → k < length rs
    → get_or (parts rs st) k free_cell ≡ record {
      slot = get_or rs k free_cell.slot;
      octets = take slot_octets (drop (k * slot_octets) st);
    }
unfolding parts
parts_at [] st k h = absurd (not-suc-le-zero h)
parts_at (r ∷ rs) st zero h = rw (zero-mul slot_octets) refl
parts_at (r ∷ rs) st (suc k) h = parts_at rs (drop slot_octets st) k (le_of_suc-le-suc h) ∙ rw
    (drop-drop (k * slot_octets) slot_octets st, suc-mul k slot_octets, add_comm slot_octets (k * slot_octets)) refl

pub records-set : (xs : List Cell) (k : ℕ) (x : Cell) → records (set xs k x) ≡ set (records xs) k x.slot
records-set [] k x = refl
records-set (y ∷ xs) zero x = refl
records-set (y ∷ xs) (suc k) x = ap (λ l. y.slot ∷ l) (records-set xs k x)

front : (st : List ℕ) (k : ℕ)
    → take (suc k * slot_octets) st ≡ take slot_octets st ++ take (k * slot_octets) (drop slot_octets st)
front st k =
    rw (suc-mul k slot_octets, add_comm (k * slot_octets) slot_octets) (take-add slot_octets (k * slot_octets) st)

back : (st : List ℕ) (k : ℕ) → drop (suc (suc k) * slot_octets) st ≡ drop (suc k * slot_octets) (drop slot_octets st)
back st k = rw (suc-mul (suc k) slot_octets, add_comm (suc k * slot_octets) slot_octets)
    (sym (drop-drop (suc k * slot_octets) slot_octets st))

pub store-set : (rs : List Subscription) (st : List ℕ) (k : ℕ) (x : Cell) → k < length rs
    → length st ≡ length rs * slot_octets
    → store (set (parts rs st) k x) ≡ take (k * slot_octets) st ++ (x.octets ++ drop (suc k * slot_octets) st)
unfolding parts
store-set [] st k x h e = absurd (not-suc-le-zero h)
store-set (r ∷ rs) st zero x h e =
    let one : 1 * slot_octets ≡ slot_octets = omega arith in
    rw (store-parts rs (drop slot_octets st) (shorter st (length rs) e), zero-mul slot_octets, one) refl
store-set (r ∷ rs) st (suc k) x h e =
    rw (store-set rs (drop slot_octets st) k x (le_of_suc-le-suc h) (shorter st (length rs) e), front st k, back st k)
    (sym (append_assoc (take slot_octets st) (take (k * slot_octets) (drop slot_octets st))
    (x.octets ++ drop (suc k * slot_octets) (drop slot_octets st))))

-- a call that names slot k, in the code's terms
pub named_flat : (u : Cell → Outcome Answer Cell) (rs : List Subscription) (st : List ℕ) (k : ℕ) → k < length rs
    → length st ≡ length rs * slot_octets
    → let o = u (record { slot = get_or rs k free_cell.slot; octets = take slot_octets (drop (k * slot_octets) st) }) in
    lent_after (at_slot free_cell u k (parts rs st))
    ≡ record {
      answer = o.answer;
      after =
          record {
            records = set rs k o.after.slot;
            store = take (k * slot_octets) st ++ (o.after.octets ++ drop (suc k * slot_octets) st);
          };
    }
unfolding at_slot
named_flat u rs st k h e =
    let x : Cell =
    record { slot = get_or rs k free_cell.slot; octets = take slot_octets (drop (k * slot_octets) st) } in
    rw (
      parts_at rs st k h,
      records-set (parts rs st) k (u x).after,
      records-parts rs st,
      store-set rs st k (u x).after h e,
    ) refl
