-- The slot alone as a cell: its steps one by one, and what they keep.
use mathlib.Core.Path.{◌≡◌, refl, ap, ◌∙◌}
use mathlib.Core.Bool.{Bool, true, false, cond, not}
use mathlib.Core.List.{List, [], ◌∷◌, append-nil}
use Prim.Native.Nat.{ℕ}
use native.Mathlib.Omega.{arith}
use lib.Dec.{lit≤}
use lib.ListN.{length, replicate, length-append, length-drop, length-replicate}
use Rattle.subscription.specs.declared.Heard.{Heard}
use Rattle.subscription.specs.declared.Filter.{Filter}
use Rattle.tables.specs.Lists.{at_slot}
use Rattle.subscription_table.specs.Slot.{Judged, refusal, passed, judged, Request, Cell, slot_octets, free_cell}
use Rattle.subscription_table.specs.Slot.{granted_cell, wants, takes, deliver, due, mark}
use Rattle.subscription_table.specs.Table.{Call, holds, slots, lent, lent_after, step}
use Rattle.subscription_table.specs.Alone.{Fed, arrived, checked, asked, own, Slot, free, held, alone, only, is_free}
use Rattle.subscription_table.specs.Alone.{granted_same, reached}
use Rattle.subscription.specs.Record.{in_use, zeroes}
use Rattle.subscription_table.proofs.Lent.{step-lent}
use Rattle.subscription_table.proofs.Fitting.{judged-fits}

abbrev pub arrived_at : Judged → Cell → Cell
arrived_at (refusal n) x = x
arrived_at (passed h dataset) x = deliver h dataset x

abbrev pub next_cell : Fed → Cell → Cell
next_cell (arrived a d) x = arrived_at (judged a d) x
next_cell (checked time) x = mark time x
next_cell (asked set) x = x

abbrev pub after : Request → ℕ → List Fed → Cell
after q time [] = granted_cell q time
after q time (f ∷ fs) = next_cell f (after q time fs)

abbrev pub cell_of : Slot → Cell
cell_of free = free_cell
cell_of (held q time fs) = after q time fs

-- ---- what a slot keeps from its grant on

pub record Kept (g : Filter) (x : Cell) : Type 0 where
  pub used : in_use x.slot ≡ true
  pub filter : x.slot.filter ≡ g
  pub sized : length x.octets ≡ slot_octets

kept-cond : {g : Filter} (b : Bool) {x y : Cell} → Kept g x → Kept g y → Kept g (cond b x y)
kept-cond b k l = grind arith

length-cleared : (b : Bool) (o : List ℕ) → length o ≡ slot_octets
    → length (cond b (replicate slot_octets 0) o) ≡ slot_octets
length-cleared true o e = length-replicate slot_octets 0
length-cleared false o e = e

kept_next : {g : Filter} (f : Fed) (x : Cell) → Kept g x → Kept g (next_cell f x)
kept_next {g} (arrived a d) x k = go (judged a d) refl
  where
    go : (j : Judged) → judged a d ≡ j → Kept g (arrived_at j x)
    go (refusal n) e = k
    go (passed h dataset) e =
        let le = judged-fits a d h dataset e in
        kept-cond (takes h x) (record {
          used = k.used;
          filter = k.filter;
          sized = simp (length-append, length-drop, k.sized) (omega arith);
        }) k
kept_next (checked time) x k =
    kept-cond (due time x)
    (record { used = k.used; filter = k.filter; sized = length-cleared (zeroes x.slot) x.octets k.sized }) k
kept_next (asked set) x k = k

pub kept : (q : Request) (time : ℕ) (fs : List Fed) → Kept q.filter (after q time fs)
kept q time [] = record { used = refl; filter = refl; sized = length-replicate slot_octets 0 }
kept q time (f ∷ fs) = kept_next f (after q time fs) (kept q time fs)

pub sized : (s : Slot) → length (cell_of s).octets ≡ slot_octets
sized free = length-replicate slot_octets 0
sized (held q time fs) = (kept q time fs).sized

-- ---- what the table sees of a slot is what its grant says

pub free-is : (s : Slot) → not (in_use (cell_of s).slot) ≡ is_free s
free-is free = refl
free-is (held q time fs) = rw (kept q time fs).used refl

pub same-is : (r : Request) (s : Slot) → holds r (cell_of s) ≡ granted_same r s
same-is r free = refl
same-is r (held q time fs) = rw ((kept q time fs).used, (kept q time fs).filter) refl

pub wants_is : (h : Heard) (s : Slot) → wants h (cell_of s) ≡ reached h s
wants_is h free = refl
wants_is h (held q time fs) = rw ((kept q time fs).used, (kept q time fs).filter) refl

-- ---- the slot alone, a table of one slot, is that cell

one-after : (f : Fed) (x : Cell) → (slots (own f) (x ∷ [])).after ≡ next_cell f x ∷ []
unfolding slots at_slot
one-after f x = grind arith

pub step-one : (c : Call) (s : Slot) → step c (lent (cell_of s ∷ [])) ≡ lent_after (slots c (cell_of s ∷ []))
step-one c s = step-lent cell_of sized c (s ∷ []) (lit≤ tt)

pub only-is : (s : Slot) → only s ≡ lent (cell_of s ∷ [])
unfolding alone
only-is free = rw (append-nil free_cell.octets) refl
only-is (held q time []) = refl
only-is (held q time (f ∷ fs)) =
    ap (λ t. (step (own f) t).after) (only-is (held q time fs)) ∙ ap (λ o. o.after) (step-one (own f) (held q time fs))
    ∙ ap lent (one-after f (after q time fs))

pub only-answer : (c : Call) (s : Slot) → (step c (only s)).answer ≡ (slots c (cell_of s ∷ [])).answer
only-answer c s = rw (only-is s, step-one c s) refl
