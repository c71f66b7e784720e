-- A list that is filled from the front with f of another list's elements, one store a turn.
-- Assumes nothing.
use mathlib.Core.Path.{◌≡◌, refl, ap, ◌∙◌}
use mathlib.Core.List.{List, [], ◌∷◌, ◌++◌, map, append-nil}
use Prim.Native.Nat.{ℕ, suc, ◌+◌, ◌<◌, ◌≤◌}
use native.Mathlib.Numerals.{add-one}
use native.Mathlib.Nat.{le_of_lt}
use lib.ListN.{length, get_or, take, drop, set, length-map, drop_of_length-le}
use lib.Seq.{drop-cons, take-suc, set_at, take_all, length-take-le, get_or_at}

module _ {A B : Type 0} (f : A → B) (l : List A) (e : List B) where
  -- the first i are f of the other list's, the rest is as it was
  abbrev pub filled : ℕ → List B
  filled i = map f (take i l) ++ drop i e

  module _ (i : ℕ) where
    -- the part that is filled
    length-filled : i < length l → length (map f (take i l)) ≡ i
    length-filled h = length-map (take i l) f ∙ length-take-le i l (le_of_lt h)

    pub filled_more : (d : A) (d' : B) → i < length l → i < length e
        → set (filled i) i (f (get_or l i d)) ≡ filled (i + 1)
    filled_more d d' h k =
        rw (add-one, drop-cons e i d', take-suc l i d, map_snoc)
        (set_at (map f (take i l)) (get_or e i d') (drop (suc i) e) (f (get_or l i d)) i (length-filled h))
      where
        map_snoc : (ys : List A) (x : A) (r : List B) → map f (ys ++ (x ∷ [])) ++ r ≡ map f ys ++ (f x ∷ r)
        map_snoc [] x r = refl
        map_snoc (y ∷ ys) x r = ap (λ (z : List B). f y ∷ z) (map_snoc ys x r)

    pub filled_next : (d : B) → i < length l → i < length e → get_or (filled i) i d ≡ get_or e i d
    filled_next d h k =
        rw (drop-cons e i d) (get_or_at (map f (take i l)) (get_or e i d) (drop (suc i) e) d i (length-filled h))

    pub filled-all : length l ≤ i → length e ≤ i → filled i ≡ map f l
    filled-all h k = rw (take_all, drop_of_length-le e k) (append-nil (map f l))
