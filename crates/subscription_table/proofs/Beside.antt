-- Demand 3: over every list of calls the table is its slots alone, side by side.
-- ---- call by call, at one slot
-- a slot alone's answer to a telegram that passed, and to a time check, tells whether it changed
use mathlib.Core.Path.{◌≡◌, refl, sym}
use mathlib.Core.Bool.{Bool, true, false, cond, not, ◌||◌}
use mathlib.Core.List.{List, [], ◌∷◌, map, append-nil}
use mathlib.Core.Option.{Option, none, some}
use Prim.Native.Nat.{ℕ, zero, suc, ◌*◌, ◌≤◌}
use native.Mathlib.Nat.{zero-mul, suc-mul, add_comm}
use native.Mathlib.Omega.{arith}
use lib.ListN.{length, get_or, set, replicate, length-set, length-map, length-replicate, replicate-append-replicate}
use Rattle.refusal.specs.declared.Refusal.TheVariants as refusal
use Rattle.subscription.specs.Record.{in_use, unsound}
use Rattle.arrival.specs.declared.Arrival.{Arrival}
use Rattle.subscription.specs.declared.Heard.{Heard}
use Rattle.tables.specs.Lists.{any, lowest, grant, at_slot}
use Rattle.tables.specs.Trace.{Outcome, trace}
use Rattle.subscription_table.specs.Slot.{Judged, refusal, passed, judged, Cell, slot_octets, free_cell, wants, takes}
use Rattle.subscription_table.specs.Slot.{deliver, due, mark}
use Rattle.subscription_table.specs.Table.{Call, subscribe, unsubscribe, telegram, time_check, read, Answer, granted}
use Rattle.subscription_table.specs.Table.{refused, early, delivered_to, unsubscribed, reading, arriving, holds, slots}
use Rattle.subscription_table.specs.Table.{Table, lent, fits, step, empty_table}
use Rattle.subscription_table.specs.Table as Rules
use Rattle.subscription_table.specs.Alone.{arrived, checked, asked, Slot, free, held, only, joined, is_free}
use Rattle.subscription_table.specs.Alone.{granted_same, reached, feed, changed, changes, arriving_beside, beside}
use Rattle.subscription_table.specs.Alone.{refusing, side_by_side}
use Rattle.subscription_table.specs.Demand3.{SideBySide}
use Rattle.tables.proofs.Trace.{same-trace}
use Rattle.tables.proofs.Lists.{mapped, any-each, count-each, lowest-each, map_each, grant-map, at_slot-at}
use Rattle.subscription_table.proofs.Lent.{step-lent, fits-means}
use Rattle.subscription_table.proofs.One.{after, cell_of, kept, sized, free-is, same-is, wants_is, only-is, only-answer}

told : (met took : Bool) → changed (delivered_to (met || false) (cond took 1 0)) ≡ took
told met took = grind arith

told-mark : (b : Bool) → changed (Rules.marked (cond b 1 0)) ≡ b
told-mark b = grind arith

takes-is : (a : Arrival) (d : List ℕ) (h : Heard) (dataset : List ℕ) → judged a d ≡ passed h dataset → (s : Slot)
    → takes h (cell_of s) ≡ changes (arrived a d) s
unfolding slots
takes-is a d h dataset e s =
    rw (only-answer (telegram a d) s, e) (sym (told (wants h (cell_of s)) (takes h (cell_of s))))

due-is : (time : ℕ) (s : Slot) → due time (cell_of s) ≡ changes (checked time) s
unfolding slots
due-is time s = rw (only-answer (time_check time) s) (sym (told-mark (due time (cell_of s))))

mark-is : (time : ℕ) (s : Slot) → mark time (cell_of s) ≡ cell_of (feed (checked time) s)
mark-is time s = grind arith

-- a telegram that the filter turns away leaves the slot as it was
deliver-is : (a : Arrival) (d : List ℕ) (h : Heard) (dataset : List ℕ) → judged a d ≡ passed h dataset → (s : Slot)
    → deliver h dataset (cell_of s) ≡ cell_of (cond (reached h s) (feed (arrived a d) s) s)
deliver-is a d h dataset e free = refl
deliver-is a d h dataset e (held q time fs) = rw (← wants_is h (held q time fs)) (go (wants h (after q time fs)) refl)
  where
    go : (b : Bool) → wants h (after q time fs) ≡ b
        → deliver h dataset (after q time fs) ≡ cell_of (cond b (held q time (arrived a d ∷ fs)) (held q time fs))
    go true w = rw e refl
    go false w = rw w refl

unsubscribed-is : (s : Slot) → unsubscribed (cell_of s)
    ≡ record { answer = (step (unsubscribe 0) (only s)).answer; after = free_cell }
unfolding slots at_slot
unsubscribed-is free = rw (only-answer (unsubscribe 0) free) refl
unsubscribed-is (held q time fs) = rw (only-answer (unsubscribe 0) (held q time fs), (kept q time fs).used) refl

asked_is : (set : List ℕ) (s : Slot) → cell_of (feed (asked set) s) ≡ cell_of s
asked_is set s = grind arith

read_is : (set : List ℕ) (s : Slot)
    → ◌≡◌ {A = Outcome Answer Cell} (record { answer = reading set (cell_of s); after = cell_of s })
    (record { answer = (step (read 0 set) (only s)).answer; after = cell_of (feed (asked set) s) })
unfolding slots at_slot
read_is set s = rw (only-answer (read 0 set) s, asked_is set s) refl

-- ---- call by call, at the table

arriving-is : (a : Arrival) (d : List ℕ) (ss : List Slot) (j : Judged) → judged a d ≡ j
    → arriving j (map cell_of ss) ≡ mapped cell_of (arriving_beside a d j ss)
arriving-is a d ss (refusal n) e = refl
arriving-is a d ss (passed h dataset) e =
    rw (
      any-each cell_of free (wants h) (reached h) ss (λ j. wants_is h (get_or ss j free)),
      count-each cell_of free (takes h) (changes (arrived a d)) ss (λ j. takes-is a d h dataset e (get_or ss j free)),
      map_each cell_of free (deliver h dataset) (λ s. cond (reached h s) (feed (arrived a d) s) s) ss
          (λ j. deliver-is a d h dataset e (get_or ss j free)),
    ) refl

slots-are : (c : Call) (ss : List Slot) → slots c (map cell_of ss) ≡ mapped cell_of (beside c ss)
unfolding slots beside
slots-are (subscribe q time) ss =
    rw (
      any-each cell_of free (holds q) (granted_same q) ss (λ j. same-is q (get_or ss j free)),
      lowest-each cell_of free (λ x. not (in_use x.slot)) is_free ss (λ j. free-is (get_or ss j free)),
    )
    (grant-map cell_of (early (unsound q.filter) (any (granted_same q) ss)) (lowest is_free ss)
    (refused refusal.NoFreeSlot) granted (held q time []) ss)
slots-are (unsubscribe k) ss =
    at_slot-at cell_of free unsubscribed (λ s. record { answer = (step (unsubscribe 0) (only s)).answer; after = free })
    k
    ss (unsubscribed-is (get_or ss k free))
slots-are (telegram a d) ss = arriving-is a d ss (judged a d) refl
slots-are (time_check time) ss =
    rw (
      count-each cell_of free (due time) (changes (checked time)) ss (λ j. due-is time (get_or ss j free)),
      map_each cell_of free (mark time) (feed (checked time)) ss (λ j. mark-is time (get_or ss j free)),
    ) refl
slots-are (read k set) ss =
    at_slot-at cell_of free (λ x. record { answer = reading set x; after = x })
    (λ s. record { answer = (step (read 0 set) (only s)).answer; after = feed (asked set) s }) k ss
    (read_is set (get_or ss k free))

-- ---- the whole list

pub joined_is : (ss : List Slot) → joined ss ≡ lent (map cell_of ss)
joined_is [] = refl
joined_is (s ∷ ss) = rw (only-is s, joined_is ss, append-nil (cell_of s).octets) refl

pub agrees : (c : Call) (ss : List Slot) → length ss ≤ 32
    → step c (joined ss) ≡ record { answer = (beside c ss).answer; after = joined (beside c ss).after }
agrees c ss le = rw (joined_is ss, step-lent cell_of sized c ss le, slots-are c ss, joined_is (beside c ss).after) refl

length-grant : (e : Option Answer) (k : Option ℕ) (s : Slot) (ss : List Slot)
    → length (grant e k (refused refusal.NoFreeSlot) granted s ss).after ≡ length ss
unfolding grant
length-grant (some a) k s ss = refl
length-grant none none s ss = refl
length-grant none (some k) s ss = length-set ss k s

length-arriving : (a : Arrival) (d : List ℕ) (j : Judged) (ss : List Slot)
    → length (arriving_beside a d j ss).after ≡ length ss
length-arriving a d (refusal n) ss = refl
length-arriving a d (passed h dataset) ss = length-map ss (λ s. cond (reached h s) (feed (arrived a d) s) s)

pub length-beside : (c : Call) (ss : List Slot) → length (beside c ss).after ≡ length ss
unfolding beside at_slot
length-beside (subscribe q time) ss =
    length-grant (early (unsound q.filter) (any (granted_same q) ss)) (lowest is_free ss) (held q time []) ss
length-beside (unsubscribe k) ss = length-set ss k free
length-beside (telegram a d) ss = length-arriving a d (judged a d) ss
length-beside (time_check time) ss = length-map ss (feed (checked time))
length-beside (read k set) ss = simp length-set

pub keeps : (c : Call) (ss : List Slot) → length ss ≤ 32 → length (beside c ss).after ≤ 32
keeps c ss le = rw (length-beside c ss) le

pub joined-empty : (n : ℕ) → joined (replicate n free) ≡ empty_table n (n * slot_octets)
joined-empty zero = rw (zero-mul slot_octets) refl
joined-empty (suc n) =
    rw (
      joined-empty n,
      replicate-append-replicate slot_octets (n * slot_octets) zero,
      suc-mul n slot_octets,
      add_comm slot_octets (n * slot_octets),
    ) refl

-- where the table is refused, every call is
abbrev pub Refused : Table → Type 0
Refused t = fits (length t.records) (length t.store) ≡ false

pub refuses : (c : Call) (t : Table) → Refused t → step c t ≡ refusing c t
unfolding step
refuses c t e = rw e refl

pub table-is-side-by-side : SideBySide
unfolding side_by_side
table-is-side-by-side n octets cs = go (fits n octets) refl
  where
    go : (b : Bool) → fits n octets ≡ b
        → trace step (λ t. t) cs (empty_table n octets)
        ≡ cond b (trace beside joined cs (replicate n free)) (trace refusing (λ t. t) cs (empty_table n octets))
    go true e =
        let m = fits-means n octets e in
        rw (m.1, ← joined-empty n) (same-trace step beside joined (λ ss. length ss ≤ 32) keeps agrees cs
        (replicate n free) (rw (length-replicate n free) m.0))
    go false e = same-trace step refusing (λ t. t) Refused (λ c t h. h) refuses cs (empty_table n octets)
        (simp length-replicate e)
