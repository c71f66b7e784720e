-- Each dataset that is walked takes at least one octet, so that an array of them ends where the data end, whatever its
-- count.
-- Assumes nothing.
use Rattle.std.specs.Prelude.{None, Result, Ok, Err}
use mathlib.Core.Path.{◌≡◌, refl, subst}
use mathlib.Core.List.{List, [], ◌∷◌, reverse}
use mathlib.Core.Bool.{Bool, true, false, cond}
use Prim.Native.Nat.{ℕ, zero, suc, ◌*◌, ◌≤◌, ◌<◌}
use native.Mathlib.Omega.{arith}
use borrow.Author.Tests.{ltb-true, ltb-false}
use lib.Dec.{eqb, ltb}
use lib.ListN.{length, take, drop, length-drop}
use Rattle.refusal.specs.declared.Refusal.{Refusal}
use Rattle.refusal.specs.declared.Refusal.TheVariants as refusal
use Rattle.scalars.specs.Scalars.{parts_of}
use Rattle.dataset.specs.Descriptions.{Element, elements_of, malformed, scan, look_up}
use Rattle.dataset.specs.Walk.{Walked, stopped, walked, then, times, turned, count_behind, with_items, items_of}
use Rattle.dataset.specs.Walk.{walk_of, through_found, nested_of}
use Rattle.dataset.specs.declared.Form.{Form}
use Rattle.dataset.proofs.Walks.{Takes, takes-turned, takes-times, takes-walk}
use Rattle.dataset.proofs.Descriptions.{Sound, is-sound}

-- a walk leaves fewer octets than there were
abbrev pub Falls : List ℕ → Walked → Type 0
Falls d (stopped r) = Unit {0}
Falls d (walked left done) = length left < length d

falls-then : (d : List ℕ) (w : Walked) (f : List ℕ → Walked) → Falls d w → ((l : List ℕ) → Takes l (f l))
    → Falls d (then w f)
falls-then d w f h k = grind arith

-- the first part has octets
abbrev Parts : List ℕ → Type 0
Parts [] = ⊥
Parts (k ∷ ks) = 1 ≤ k

parts-of : (t : ℕ) → (t ≡ 0 → ⊥) → t < 17 → Parts (parts_of t)
parts-of t h k = grind arith

falls-turned : (ks d : List ℕ) → Parts ks → Falls d (turned ks d)
falls-turned [] d h = absurd h
falls-turned (k ∷ ks) d h = go (ltb (length d) k) refl
  where
    go : (b : Bool) → ltb (length d) k ≡ b
        → Falls d (cond b (stopped refusal.DataLength) (then (walked (drop k d) (reverse (take k d))) (turned ks)))
    go true e = tt
    go false e =
        let fewer : length (drop k d) < length d = omega (arith, h, ltb-false (length d) k e, length-drop k d) in
        falls-then d (walked (drop k d) (reverse (take k d))) (turned ks) fewer
        (takes-turned ks)

-- a description has a first element, of a type that is not 0
abbrev First : List Element → Type 0
First [] = ⊥
First (e ∷ es) = e.type ≡ 0 → ⊥

abbrev Opens : Result (List Element) Refusal → Type 0
Opens (Ok es) = First es
Opens (Err r) = Unit {0}

first-of : (n : ℕ) (run : List ℕ) → Sound n run → First (elements_of n run)
first-of n run h = grind arith

scan-opens : (m id : ℕ) (run : List ℕ) → Opens (scan m id run)
scan-opens zero id run = tt
scan-opens (suc m) id [] = tt
scan-opens (suc m) id (x ∷ []) = tt
scan-opens (suc m) id (x ∷ n ∷ run) = go (malformed x n run) (eqb x id) refl (scan-opens m id (drop (2 * n) run))
  where
    go : (b c : Bool) → malformed x n run ≡ b → Opens (scan m id (drop (2 * n) run))
        → Opens (cond b (Err refusal.Description) (cond c (Ok (elements_of n run)) (scan m id (drop (2 * n) run))))
    go true c e h = tt
    go false false e h = h
    go false true e h = first-of n run (is-sound x n run e)

look-up-opens : (id : ℕ) (run : List ℕ) → Opens (look_up id run)
look-up-opens id run = go (ltb 4096 (length run))
  where
    go : (b : Bool) → Opens (cond b (Err refusal.Description) (scan (length run) id run))
    go true = tt
    go false = scan-opens (length run) id run

module _ (levels : ℕ) (form : Form) (run : List ℕ) where
  abbrev nested : ℕ → ℕ → List ℕ → Walked
  nested = nested_of levels form run

  module _ (h : (t n : ℕ) (l : List ℕ) → Falls l (nested t (suc n) l)) where
    falls-items : (t n : ℕ) (d : List ℕ) → (t ≡ 0 → ⊥) → Falls d (items_of nested t (suc n) d)
    falls-items t n d k = go (ltb t 17) refl
      where
        go : (b : Bool) → ltb t 17 ≡ b → Falls d (cond b (times (suc n) (turned (parts_of t)) d) (nested t (suc n) d))
        go false e = h t n d
        go true e =
            falls-then d (turned (parts_of t) d) (times n (turned (parts_of t)))
            (falls-turned (parts_of t) d (parts-of t k (ltb-true t 17 e)))
            (takes-times n (turned (parts_of t)) (takes-turned (parts_of t)))

    falls-walk : (es : List Element) (d : List ℕ) → First es → Falls d (walk_of form nested es None d)
    falls-walk [] d k = absurd k
    falls-walk (e ∷ es) d k = go e.count
      where
        go : (m : ℕ)
            → Falls d (with_items None m
            (λ n. then (items_of nested e.type n d) (walk_of form nested es (count_behind form e d))))
        go zero = tt
        go (suc n) = falls-then d (items_of nested e.type (suc n) d) (walk_of form nested es (count_behind form e d))
            (falls-items e.type n d k) (takes-walk levels form run es (count_behind form e d))

falls-nested : (levels : ℕ) (form : Form) (run : List ℕ) (id n : ℕ) (d : List ℕ)
    → Falls d (nested_of levels form run id (suc n) d)
falls-nested zero form run id n d = tt
falls-nested (suc levels) form run id n d = go (look_up id run) (look-up-opens id run) (falls-nested levels form run)
  where
    go : (w : Result (List Element) Refusal) → Opens w
        → ((t m : ℕ) (l : List ℕ) → Falls l (nested_of levels form run t (suc m) l))
        → Falls d (through_found w (λ es. times (suc n) (walk_of form (nested_of levels form run) es None) d))
    go (Err r) o h = tt
    go (Ok es) o h =
        falls-then d (walk_of form (nested_of levels form run) es None d)
        (times n (walk_of form (nested_of levels form run) es None)) (falls-walk levels form run h es d o)
        (takes-times n (walk_of form (nested_of levels form run) es None) (takes-walk levels form run es None))

-- a dataset of a description that was found leaves fewer octets than there were
pub dataset-falls : (levels : ℕ) (form : Form) (run : List ℕ) (id : ℕ) (es : List Element) → look_up id run ≡ Ok es
    → (d : List ℕ) → Falls d (walk_of form (nested_of levels form run) es None d)
dataset-falls levels form run id es e d =
    falls-walk levels form run (falls-nested levels form run) es d (subst Opens e (look-up-opens id run))
