-- Reading a slot, in terms of the table's rules.
-- Assumes nothing.
use Prim.Native.Nat.{ℕ, ◌*◌, ◌≤◌}
use mathlib.Core.Path.{◌≡◌, refl, sym, ◌∙◌, ap}
use mathlib.Core.List.{List}
use mathlib.Core.Bool.{Bool, true, false}
use lib.Dec.{ltb}
use lib.ListN.{length, take, drop, get_or}
use lib.Seq.{take-take}
use borrow.Author.Tests.{ltb-true, ltb-false}
use Rattle.tables.specs.Lists.{at_slot}
use Rattle.subscription.specs.Record.{in_use, free_record}
use Rattle.subscription_table.specs.Slot.{Cell, slot_octets, free_cell, shown as cell_shows, overlong}
use Rattle.subscription_table.specs.Table.{read, reading, fits, parts, slots, step}
use Rattle.subscription.specs.declared.Subscription.{Subscription}
use Rattle.subscription_table.proofs.Flat.{parts_at}
use Rattle.subscriptions.specs.Read.{Reads}
use Rattle.subscription_decisions.specs.Read.{read_by, shown}
use Rattle.tables.proofs.Arrays.{past}
use Rattle.subscriptions.proofs.Slot.{length-parts}

-- one slot that is there
cell-reads : (k : ℕ) (set : List ℕ) (st : List ℕ) (r : Subscription)
    → shown k set st (read_by true r) ≡ reading set (record { slot = r; octets = take slot_octets (drop (k * slot_octets) st) })
unfolding overlong cell_shows
cell-reads k set st r = used (in_use r) refl
  where
    x : Cell
    x = record { slot = r; octets = take slot_octets (drop (k * slot_octets) st) }

    long : (b : Bool) → ltb slot_octets r.length ≡ b → in_use r ≡ true → shown k set st (read_by true r) ≡ reading set x
    long true l u = rw (u, l) refl
    long false l u =
        let h : r.length ≤ slot_octets = ltb-false slot_octets r.length l in
        rw (u, l, take-take r.length slot_octets (drop (k * slot_octets) st) h) refl

    used : (b : Bool) → in_use r ≡ b → shown k set st (read_by true r) ≡ reading set x
    used true u = long (ltb slot_octets r.length) refl u
    used false u = rw u refl

pub reads : (k : ℕ) (rs : List Subscription) (st : List ℕ)
    → Reads k rs st (read_by (fits (length rs) (length st)) (get_or rs k free_record))
unfolding step slots at_slot
reads k rs st = record { answers = λ set. go set (fits (length rs) (length st)) refl }
  where
    there : (set : List ℕ) (b : Bool) → ltb k (length rs) ≡ b
        → shown k set st (read_by true (get_or rs k free_record)) ≡ reading set (get_or (parts rs st) k free_cell)
    there set true h = cell-reads k set st (get_or rs k free_record)
        ∙ ap (reading set) (sym (parts_at rs st k (ltb-true k (length rs) h)))
    there set false h =
        let n : length rs ≤ k = ltb-false k (length rs) h in
        let m : length (parts rs st) ≤ k = rw (length-parts rs st) n in
        rw (past rs k free_record n, past (parts rs st) k free_cell m) refl

    go : (set : List ℕ) (b : Bool) → fits (length rs) (length st) ≡ b
        → shown k set st (read_by b (get_or rs k free_record))
        ≡ (step (read k set) (record { records = rs; store = st })).answer
    go set true f = rw f (there set (ltb k (length rs)) refl)
    go set false f = rw f refl

pub not_there : (rs : List Subscription) (k : ℕ) → ltb k (length rs) ≡ false → free_record ≡ get_or rs k free_record
not_there rs k h = sym (past rs k free_record (ltb-false k (length rs) h))
