-- Subscribing, in terms of the table's rules.
-- Assumes nothing.
use Prim.Native.Nat.{ℕ, suc, ◌+◌, ◌*◌, ◌<◌}
use native.Mathlib.Omega.{arith}
use mathlib.Core.Path.{◌≡◌, refl, sym, ap, ◌∙◌}
use mathlib.Core.List.{List, [], ◌∷◌}
use mathlib.Core.Bool.{Bool, true, false, cond, not}
use mathlib.Core.Option as math
use lib.ListN.{length, drop, set}
use Rattle.tables.specs.Lists.{any, lowest, next, grant}
use Rattle.tables.proofs.Lists.{lowest-is}
use Rattle.subscription.specs.Record.{in_use, free_record, record_holds, unsound, granted_record}
use Rattle.subscription_table.specs.Slot.{Request, slot_octets, granted_cell}
use Rattle.subscription_table.specs.Table.{Table, Answer, fits, parts, subscribe, granted, refused, early, holds, lent_after, slots, step}
use Rattle.subscription.specs.declared.Subscription.{Subscription}
use Rattle.subscription_table.proofs.Flat.{records-parts, store-parts, records-set, store-set}
use Rattle.subscription_table.proofs.Lent.{fits-means}
use Rattle.subscriptions.specs.Calls.{Follows, cleared}
use Rattle.subscriptions.specs.Search.{granting, is_free}
use Rattle.std.specs.Prelude.{nat_lt, Ok, Err, None, Option, Result, Some}
use Rattle.std.specs.List.{list_any, position, position_or_len}
use Rattle.std.specs.Option.{ok_or}
use Rattle.refusal.specs.declared.Refusal.{Refusal}
use Rattle.refusal.specs.declared.Refusal.TheVariants as refusal
use Rattle.tables.specs.Trace.{Outcome}
use Rattle.subscriptions.proofs.Slot.{zeroed}

-- ---- std's searches are those of the rules

abbrev pub found : Option ℕ → math.Option ℕ
found None = math.none
found (Some k) = math.some k

module _ {X : Type 0} (p : X → Bool) where
  any-is : (xs : List X) → any p xs ≡ list_any p xs
  any-is [] = refl
  any-is (x ∷ xs) = rw (any-is xs) refl

  further : (n m : ℕ) → nat_lt (1 + n) (suc m) ≡ nat_lt n m
  further n m = grind arith

  within : (m : ℕ) → nat_lt 0 (suc m) ≡ true
  within m = grind arith

  later : (b : Bool) (n : ℕ) → next (found (cond b (Some n) None)) ≡ found (cond b (Some (1 + n)) None)
  later true n = let e : 1 + n ≡ suc n = omega arith in rw e refl
  later false n = refl

  lowest-is-found : (xs : List X) → lowest p xs ≡ found (position p xs)
  lowest-is-found [] = refl
  lowest-is-found (x ∷ xs) = go (p x) refl (lowest-is-found xs)
    where
      go : (b : Bool) → p x ≡ b → lowest p xs ≡ found (position p xs)
          → cond (p x) (math.some 0) (next (lowest p xs)) ≡ found (position p (x ∷ xs))
      go true e h = rw (e, within (length xs)) refl
      go false e h = rw (e, h, further (position_or_len p xs) (length xs)) (later (nat_lt (position_or_len p xs) (length xs)) (position_or_len p xs))

-- what the records show, the slots show
any-parts : (q : Request) (rs : List Subscription) (st : List ℕ)
    → any (holds q) (parts rs st) ≡ any (record_holds q.filter) rs
unfolding parts
any-parts q [] st = refl
any-parts q (r ∷ rs) st = rw (any-parts q rs (drop slot_octets st)) refl

lowest-parts : (rs : List Subscription) (st : List ℕ)
    → lowest (λ x. not (in_use x.slot)) (parts rs st) ≡ lowest is_free rs
unfolding parts
lowest-parts [] st = refl
lowest-parts (r ∷ rs) st = rw (lowest-parts rs (drop slot_octets st)) refl

module _ (q : Request) (time : ℕ) (rs : List Subscription) (st : List ℕ) (fitting : fits (length rs) (length st) ≡ true) where
  long : length st ≡ length rs * slot_octets
  long = (fits-means (length rs) (length st) fitting).1

  abbrev left : Bool → Bool → Option ℕ → Outcome Answer Table
  left b a o = lent_after (grant (early b a) (found o) (refused refusal.NoFreeSlot) granted (granted_cell q time) (parts rs st))

  abbrev bad : Bool
  bad = unsound q.filter

  abbrev held : Bool
  held = list_any (record_holds q.filter) rs

  abbrev lowest_slot : Option ℕ
  lowest_slot = position is_free rs

  steps : step (subscribe q time) (record { records = rs; store = st }) ≡ left bad held lowest_slot
  unfolding step slots
  steps = rw (fitting, any-parts q rs st, any-is (record_holds q.filter) rs, lowest-parts rs st, lowest-is-found is_free rs) refl

  abbrev chosen : Bool → Bool → Option ℕ → Result ℕ Refusal
  chosen b a o = cond b (Err refusal.Range) (cond a (Err refusal.FilterInUse) (ok_or o refusal.NoFreeSlot))

  -- 11, 12, 13: all stays
  stays : (b a : Bool) (o : Option ℕ) (r : Refusal) → chosen b a o ≡ Err r
      → (refused r ≡ (left b a o).answer) × (rs ≡ (left b a o).after.records) × (st ≡ (left b a o).after.store)
  unfolding grant
  stays true a o r h = let e : r ≡ refusal.Range = grind arith in (rw e refl, sym (records-parts rs st), sym (store-parts rs st long))
  stays false true o r h = let e : r ≡ refusal.FilterInUse = grind arith in (rw e refl, sym (records-parts rs st), sym (store-parts rs st long))
  stays false false None r h = let e : r ≡ refusal.NoFreeSlot = grind arith in (rw e refl, sym (records-parts rs st), sym (store-parts rs st long))
  stays false false (Some k) r h = grind arith

  pub refused-follows : (r : Refusal) → granting q.filter rs ≡ Err r
      → Follows (subscribe q time) rs st (refused r) rs st
  refused-follows r h =
      let z = stays bad held lowest_slot r h in
      record { answers = rw steps z.0; records-after = rw steps z.1; store-after = rw steps z.2 }

  -- the lowest free slot is granted, and its part zeroed
  grants : (b a : Bool) (o : Option ℕ) (k : ℕ) → chosen b a o ≡ Ok k → k < length rs
      → (granted k ≡ (left b a o).answer)
      × (set rs k (granted_record q.filter q.timeout q.behaviour time) ≡ (left b a o).after.records)
      × (cleared k st ≡ (left b a o).after.store)
  unfolding grant
  grants true a o k h n = grind arith
  grants false true o k h n = grind arith
  grants false false None k h n = grind arith
  grants false false (Some j) k h n =
      let e : j ≡ k = grind arith in
      rw e (refl, rw (records-set (parts rs st) k (granted_cell q time), records-parts rs st) refl, rw (store-set rs st k (granted_cell q time) n long) (zeroed st k))

  pub granted-there : (k : ℕ) → granting q.filter rs ≡ Ok k → k < length rs
  granted-there k h = go bad held lowest_slot refl h
    where
      go : (b a : Bool) (o : Option ℕ) → lowest_slot ≡ o → chosen b a o ≡ Ok k → k < length rs
      go true a o l h = grind arith
      go false true o l h = grind arith
      go false false None l h = grind arith
      go false false (Some j) l h =
          let e : j ≡ k = grind arith in
          rw (← e) (lowest-is is_free free_record rs j (lowest-is-found is_free rs ∙ ap found l)).0

  pub granted-follows : (k : ℕ) → granting q.filter rs ≡ Ok k
      → Follows (subscribe q time) rs st (granted k) (set rs k (granted_record q.filter q.timeout q.behaviour time)) (cleared k st)
  granted-follows k h =
      let z = grants bad held lowest_slot k h (granted-there k h) in
      record { answers = rw steps z.0; records-after = rw steps z.1; store-after = rw steps z.2 }
