-- Records of one width, one behind the other, read one by one: laws over the record, its octets and the width.
-- Assumes nothing.
use mathlib.Core.Path.{◌≡◌, refl, sym, ap, ap₂, ◌∙◌}
use mathlib.Core.List.{List, [], ◌∷◌, ◌++◌, map}
use Prim.Native.Nat.{ℕ, zero, suc, ◌+◌, ◌*◌, ◌<◌, ◌≤◌}
use native.Mathlib.Nat.{add_comm, suc-mul, zero-mul}
use native.Mathlib.Numerals.{add-one}
use native.Mathlib.Omega.{arith}
use lib.ListN.{length, get_or, take, drop, set}
use lib.Seq.{drop-drop, take-suc, take-suc-set, take-append-le, drop-append-le, take_all}
use Rattle.packed.specs.Packed.{cut}

pub length_cut : (n w : ℕ) (s : List ℕ) → length (cut n w s) ≡ n
length_cut zero w s = refl
length_cut (suc n) w s = ap suc (length_cut n w (drop w s))

pub cut_at : (n w : ℕ) (s : List ℕ) (i : ℕ) → i < n → get_or (cut n w s) i [] ≡ take w (drop (i * w) s)
cut_at zero w s i h = absurd (omega arith)
cut_at (suc n) w s zero h = ap (λ (k : ℕ). take w (drop k s)) (sym (zero-mul w))
cut_at (suc n) w s (suc i) h =
    cut_at n w (drop w s) i (omega arith)
    ∙ ap (take w) (drop-drop (i * w) w s ∙ ap (λ (k : ℕ). drop k s) (add_comm w (i * w) ∙ sym (suc-mul i w)))

-- only the first n parts are looked at
pub cut-front : (n w : ℕ) (s t : List ℕ) → n * w ≤ length s → cut n w (s ++ t) ≡ cut n w s
cut-front zero w s t h = refl
cut-front (suc n) w s t h =
    let e : suc n * w ≡ n * w + w = suc-mul n w in
    let k : w ≤ length s = omega (arith, e) in
    let m : n * w ≤ length (drop w s) = omega (arith, e, length-dropped w s) in
    ap₂ (λ (x : List ℕ) (y : List (List ℕ)). x ∷ y) (take-append-le w s t k)
    (ap (cut n w) (drop-append-le w s t k) ∙ cut-front n w (drop w s) t m)
  where
    length-dropped : (j : ℕ) (l : List ℕ) → length l ≤ j + length (drop j l)
    length-dropped zero l = omega arith
    length-dropped (suc j) [] = omega arith
    length-dropped (suc j) (x ∷ l) = let r = length-dropped j l in omega (arith, r)

-- a list in which the first i elements are f of another list's
module _ {A B : Type 0} (f : A → B) (l : List A) where
  pub filled_more : (e : List B) (i : ℕ) (d : A) (y : B) → i < length l → i < length e → take i e ≡ map f (take i l)
      → y ≡ f (get_or l i d) → take (i + 1) (set e i y) ≡ map f (take (i + 1) l)
  filled_more e i d y h k q p =
      ap (λ (j : ℕ). take j (set e i y)) (add-one i)
      ∙ take-suc-set e i y k
      ∙ ap₂ (λ (ys : List B) (z : B). ys ++ (z ∷ [])) q p
      ∙ sym (map_snoc (take i l) (get_or l i d))
      ∙ ap (map f) (sym (ap (λ (j : ℕ). take j l) (add-one i) ∙ take-suc l i d h))
    where
      map_snoc : (ys : List A) (x : A) → map f (ys ++ (x ∷ [])) ≡ map f ys ++ (f x ∷ [])
      map_snoc [] x = refl
      map_snoc (y ∷ ys) x = ap (λ (z : List B). f y ∷ z) (map_snoc ys x)

  pub filled-all : (e : List B) (i : ℕ) → length l ≤ i → length e ≤ i → take i e ≡ map f (take i l) → e ≡ map f l
  filled-all e i h k q = sym (take_all i e k) ∙ q ∙ ap (map f) (take_all i l h)
