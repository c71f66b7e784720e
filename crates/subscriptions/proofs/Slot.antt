-- A call that names a slot, in terms of the table's rules.
-- Assumes nothing.
use Prim.Native.Nat.{ℕ, suc, ◌+◌, ◌*◌, ◌<◌, ◌≤◌}
use native.Mathlib.Nat.{suc-mul}
use mathlib.Core.Path.{◌≡◌, refl, sym, ap}
use mathlib.Core.List.{List, [], ◌∷◌, ◌++◌, append_assoc}
use mathlib.Core.Bool.{Bool, true, false, false≢true}
use lib.Dec.{leb}
use lib.ListN.{length, take, drop, get_or, set, replicate, length-replicate, take-append-drop}
use lib.Seq.{set_out, set-get_or, drop-drop}
use borrow.Author.Tests.{leb-true, leb-false}
use Rattle.tables.specs.Lists.{at_slot}
use Rattle.tables.proofs.Arrays.{past}
use Rattle.subscription.specs.Record.{in_use, free_record}
use Rattle.subscription_table.specs.Slot.{Cell, slot_octets, free_cell}
use Rattle.subscription_table.specs.Table.{Table, fits, parts, unsubscribe, unsubscribed, freed, refused, slots, step}
use Rattle.subscription.specs.declared.Subscription.{Subscription}
use Rattle.subscription_table.proofs.Flat.{records-parts, store-parts, named_flat}
use Rattle.subscription_table.proofs.Lent.{fits-means}
use Rattle.subscriptions.specs.Calls.{Follows, cleared}
use Rattle.refusal.specs.declared.Refusal.TheVariants as refusal

pub length-parts : (rs : List Subscription) (st : List ℕ) → length (parts rs st) ≡ length rs
unfolding parts
length-parts [] st = refl
length-parts (r ∷ rs) st = ap suc (length-parts rs (drop slot_octets st))

-- a part put back where it was taken from
whole : (st : List ℕ) (k : ℕ) → st ≡ take (k * slot_octets) st ++ (take slot_octets (drop (k * slot_octets) st) ++ drop (suc k * slot_octets) st)
whole st k =
    rw (suc-mul k slot_octets, ← drop-drop slot_octets (k * slot_octets) st, take-append-drop slot_octets (drop (k * slot_octets) st))
    (sym (take-append-drop (k * slot_octets) st))

pub zeroed : (st : List ℕ) (k : ℕ) → cleared k st
    ≡ take (k * slot_octets) st ++ (replicate slot_octets 0 ++ drop (suc k * slot_octets) st)
zeroed st k = let n : length (replicate {A = ℕ} slot_octets 0) ≡ slot_octets = length-replicate slot_octets 0 in
    rw (n, suc-mul k slot_octets) (append_assoc (take (k * slot_octets) st) (replicate slot_octets 0) (drop (k * slot_octets + slot_octets) st))

-- the slot is there: its record and its part step alone
module _ (rs : List Subscription) (st : List ℕ) (k : ℕ) (f : fits (length rs) (length st) ≡ true) (lt : k < length rs) where
  abbrev cell : Cell
  cell = record { slot = get_or rs k free_record; octets = take slot_octets (drop (k * slot_octets) st) }

  abbrev left : Cell → Table
  left x = record { records = set rs k x.slot; store = take (k * slot_octets) st ++ (x.octets ++ drop (suc k * slot_octets) st) }

  steps : step (unsubscribe k) (record { records = rs; store = st })
      ≡ record { answer = (unsubscribed cell).answer; after = left (unsubscribed cell).after }
  unfolding step slots
  steps = rw f (named_flat unsubscribed rs st k lt (fits-means (length rs) (length st) f).1)

  -- a slot in use is freed, a free one stays
  freed-follows : in_use (get_or rs k free_record) ≡ true
      → Follows (unsubscribe k) rs st freed (set rs k free_record) (cleared k st)
  freed-follows u = record { answers = rw (steps, u) refl; records-after = rw (steps, u) refl; store-after = rw (steps, u) (zeroed st k) }

  free-follows : in_use (get_or rs k free_record) ≡ false → Follows (unsubscribe k) rs st (refused refusal.NoSlot) rs st
  free-follows u =
      record { answers = rw (steps, u) refl; records-after = rw (steps, u) (sym (set-get_or rs k free_record)); store-after = rw (steps, u) (whole st k) }

-- a slot in use is there
pub used-there : (rs : List Subscription) (k : ℕ) → in_use (get_or rs k free_record) ≡ true → k < length rs
used-there rs k u = go (leb (length rs) k) refl
  where
    go : (b : Bool) → leb (length rs) k ≡ b → k < length rs
    go true h = let z : in_use free_record
        ≡ true = rw (past rs k free_record (leb-true (length rs) k h)) at u in absurd (false≢true z)
    go false h = leb-false (length rs) k h

pub unsubscribed-follows : (rs : List Subscription) (st : List ℕ) (k : ℕ) → fits (length rs) (length st) ≡ true
    → in_use (get_or rs k free_record) ≡ true
    → Follows (unsubscribe k) rs st freed (set rs k free_record) (cleared k st)
unsubscribed-follows rs st k f u = freed-follows rs st k f (used-there rs k u) u

-- 10: the slot is free, or not there
pub unused-follows : (rs : List Subscription) (st : List ℕ) (k : ℕ) → fits (length rs) (length st) ≡ true
    → in_use (get_or rs k free_record) ≡ false
    → Follows (unsubscribe k) rs st (refused refusal.NoSlot) rs st
unfolding step slots at_slot
unused-follows rs st k f u = go (leb (length rs) k) refl
  where
    go : (b : Bool) → leb (length rs) k ≡ b → Follows (unsubscribe k) rs st (refused refusal.NoSlot) rs st
    go true h =
        let out : length (parts rs st) ≤ k = rw (length-parts rs st) (leb-true (length rs) k h) in
        let long = (fits-means (length rs) (length st) f).1 in
        record {
          answers = rw (f, past (parts rs st) k free_cell out) refl;
          records-after = rw (f, past (parts rs st) k free_cell out, set_out (parts rs st) k free_cell out) (sym (records-parts rs st));
          store-after = rw (f, past (parts rs st) k free_cell out, set_out (parts rs st) k free_cell out) (sym (store-parts rs st long));
        }
    go false h = free-follows rs st k f (leb-false (length rs) k h) u
