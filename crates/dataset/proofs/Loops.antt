-- What is left to walk at each element of a dataset, and at each dataset of an array.
-- Assumes nothing.
use Rattle.std.proofs.Common.{◌≡◌, refl, ap, ◌∙◌, ℕ, zero, suc, ◌+◌, ◌-◌, ◌<◌, ◌≤◌, arith, List, [], ◌∷◌, length}
use Rattle.std.proofs.Common.{get_or}
use Rattle.std.proofs.Common.{drop, map}
use Rattle.std.specs.Prelude.{◌==◌, not, Option, Some, None}
use Rattle.std.specs.Bool.{then_some}
use Rattle.std.specs.Option.{option_or}
use native.Mathlib.Numerals.{add-one}
use lib.Seq.{drop-cons}
use Rattle.refusal.specs.declared.Refusal.TheVariants as refusal
use Rattle.dataset.specs.Descriptions.{Element, element_of, look_up}
use Rattle.dataset.specs.Walk.{Walked, stopped, walked, then, times, count_behind, with_items, items_of, walk_of}
use Rattle.dataset.specs.Walk.{through_found, nested_of, turned}
use Rattle.scalars.specs.Scalars.{parts_of}
use Rattle.dataset.specs.Steps.{element}
use Rattle.dataset.specs.declared.Form.{Form}

-- no dataset
pub nested-none : (levels : ℕ) (form : Form) (run : List ℕ) (id n : ℕ) (d : List ℕ) → n ≡ 0
    → nested_of levels form run id n d ≡ walked d []
nested-none levels form run id n d e = grind arith

-- some datasets, of a description that was found or not
pub nested-found : (levels : ℕ) (form : Form) (run : List ℕ) (id n : ℕ) (d : List ℕ) → (n ≡ 0 → ⊥) → (levels ≡ 0 → ⊥)
    → nested_of levels form run id n d
    ≡ through_found (look_up id run) (λ es. times n (walk_of form (nested_of (levels - 1) form run) es None) d)
nested-found zero form run id n d h k = absurd (k refl)
nested-found (suc levels) form run id zero d h k = absurd (h refl)
nested-found (suc levels) form run id (suc n) d h k =
    let l : levels ≡ suc levels - 1 = omega arith in
    ap (λ m. through_found (look_up id run) (λ es. times (suc n) (walk_of form (nested_of m form run) es None) d)) l

-- one dataset, then those behind it
pub times-more : (n i : ℕ) (f : List ℕ → Walked) (d : List ℕ) → i < n
    → times (n - i) f d ≡ then (f d) (times (n - (i + 1)) f)
times-more n i f d h = let e : n - i ≡ suc (n - (i + 1)) = omega arith in ap (λ m. times m f d) e

-- the elements from i on
module _ (form : Form) (nested : ℕ → ℕ → List ℕ → Walked) (es : List (List ℕ)) (i : ℕ) (before : Option ℕ) (d : List ℕ)
    (h : i < length es) where
  abbrev pub here : Element
  here = element (get_or (get_or es i []) 0 0) (get_or (get_or es i []) 1 0)

  -- n items of element i, then the elements behind it
  abbrev pub items : ℕ → Walked
  items n =
      then (items_of nested here.type n d)
      (walk_of form nested (map element_of (drop (i + 1) es)) (count_behind form here d))

  opened : walk_of form nested (map element_of (drop i es)) before d ≡ with_items before here.count items
  opened =
      let e : drop i es ≡ get_or es i [] ∷ drop (i + 1) es = rw add-one (drop-cons es i [] h) in
      ap (λ xs. walk_of form nested (map element_of xs) before d) e

  -- how many items it has: its count, or for a count of 0 the value before it, if there is one
  abbrev pub many : ℕ → Option ℕ
  many m = option_or (then_some (not (m == 0)) m) before

  pub walk-known : (n : ℕ) → many here.count ≡ Some n
      → walk_of form nested (map element_of (drop i es)) before d ≡ items n
  walk-known n e = opened ∙ go here.count e
    where
      go : (m : ℕ) → many m ≡ Some n → with_items before m items ≡ items n
      go zero e = ap (λ c. with_items c 0 items) e
      go (suc m) e = grind arith

  pub walk-bad : many here.count ≡ None
      → walk_of form nested (map element_of (drop i es)) before d ≡ stopped refusal.Description
  walk-bad e = opened ∙ go here.count e
    where
      go : (m : ℕ) → many m ≡ None → with_items before m items ≡ stopped refusal.Description
      go zero e = ap (λ c. with_items c 0 items) e
      go (suc m) e = grind arith

-- items of either kind
module _ (nested : ℕ → ℕ → List ℕ → Walked) (t n : ℕ) (d : List ℕ) where
  pub items-scalar : t < 17 → items_of nested t n d ≡ times n (turned (parts_of t)) d
  items-scalar h = grind arith

  pub items-nested : 17 ≤ t → items_of nested t n d ≡ nested t n d
  items-nested h = grind arith
