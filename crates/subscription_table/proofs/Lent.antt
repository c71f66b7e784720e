-- The lent records and store are the slots, one after the other: cutting them apart gives the slots back.
use mathlib.Core.Path.{◌≡◌, refl, sym, ap}
use mathlib.Core.Bool.{true}
use mathlib.Core.List.{List, [], ◌∷◌, ◌++◌, map, append-nil}
use Prim.Native.Nat.{ℕ, zero, suc, ◌+◌, ◌*◌, ◌≤◌, ◌<◌}
use native.Mathlib.Nat.{zero-mul, suc-mul, add_comm, not-suc-le-zero, le_of_suc-le-suc}
use native.Mathlib.Omega.{arith}
use lib.ListN.{length, drop, get_or, length-append}
use lib.Seq.{take_at, drop_at, drop-append-add}
use Rattle.subscription_table.specs.Slot.{Cell, slot_octets}
use Rattle.subscription_table.specs.Watched.{slot_at}
use Rattle.subscription_table.specs.Table.{Call, slots, parts, records, store, lent, lent_after, fits, step}

pub fits-is : (n : ℕ) → n ≤ 32 → fits n (n * slot_octets) ≡ true
unfolding fits
fits-is n le = grind arith

pub fits-means : (n octets : ℕ) → fits n octets ≡ true → (n ≤ 32) × (octets ≡ n * slot_octets)
unfolding fits
fits-means n octets e = grind arith

module _ {Y : Type 0} (f : Y → Cell) (sized : (y : Y) → length (f y).octets ≡ slot_octets) where
  pub parts-lent : (ys : List Y) → parts (records (map f ys)) (store (map f ys)) ≡ map f ys
  unfolding parts
  parts-lent [] = refl
  parts-lent (y ∷ ys) =
      rw (
        take_at (f y).octets (store (map f ys)) slot_octets (sized y),
        drop_at (f y).octets (store (map f ys)) slot_octets (sized y),
      )
      (ap (λ l. f y ∷ l) (parts-lent ys))

  pub length-records : (ys : List Y) → length (records (map f ys)) ≡ length ys
  length-records [] = refl
  length-records (y ∷ ys) = ap suc (length-records ys)

  pub length-store : (ys : List Y) → length (store (map f ys)) ≡ length ys * slot_octets
  length-store [] = sym (zero-mul slot_octets)
  length-store (y ∷ ys) =
      rw (length-append, sized y, length-store ys, suc-mul) (add_comm slot_octets (length ys * slot_octets))

  pub step-lent : (c : Call) (ys : List Y) → length ys ≤ 32 → step c (lent (map f ys)) ≡ lent_after (slots c (map f ys))
  unfolding step
  step-lent c ys le = rw (length-records ys, length-store ys, fits-is (length ys) le, parts-lent ys) refl

  -- slot k of the lent table is the slot k
  pub slot_lent : (ys : List Y) (k : ℕ) (d : Y) → k < length ys
      → slot_at k (lent (map f ys)) ≡ lent (f (get_or ys k d) ∷ [])
  slot_lent [] k d h = absurd (not-suc-le-zero h)
  slot_lent (y ∷ ys) zero d h =
      rw (zero-mul slot_octets, take_at (f y).octets (store (map f ys)) slot_octets (sized y), append-nil (f y).octets)
      refl
  slot_lent (y ∷ ys) (suc k) d h = rw (suc-mul k slot_octets, skip) (slot_lent ys k d (le_of_suc-le-suc h))
    where
      skip : drop (k * slot_octets + slot_octets) ((f y).octets ++ store (map f ys))
          ≡ drop (k * slot_octets) (store (map f ys))
      skip = rw (add_comm (k * slot_octets) slot_octets, ← sized y) (drop-append-add (f y).octets (store (map f ys)) _)
