-- Scalars turned round, one and in arrays: how many octets they are, one scalar more, and arrays joined.
-- Assumes nothing.
use mathlib.Core.Path.{◌≡◌, refl, sym, ap, ap₂, ◌∙◌, subst}
use mathlib.Core.List.{List, [], ◌∷◌, ◌++◌, reverse, append-nil, append_assoc}
use Prim.Native.Nat.{ℕ, zero, suc, ◌+◌, ◌*◌, ◌≤◌}
use native.Mathlib.Nat.{add-zero}
use native.Mathlib.Numerals.{add-one}
use native.Mathlib.Omega.{arith}
use lib.ListN.{length, get_or, drop, length-append, length-reverse}
use lib.Seq.{drop-cons}
use Rattle.octets.specs.Octets.{Octets, little, big_of, part, put}
use Rattle.octets.proofs.Numbers.{little-again, octets-take, octets-drop}
use Rattle.octets.proofs.Parts.{part_length}
use Rattle.octets.proofs.Halves.{put-append, put-nil}
use Rattle.scalars.specs.Scalars.{size, turned_at, array_at}

length-turned : (ks : List ℕ) (p : ℕ) (s : List ℕ) → p + size ks ≤ length s → length (turned_at ks p s) ≡ size ks
length-turned [] p s h = refl
length-turned (k ∷ ks) p s h =
    length-append (reverse (part k p s)) (turned_at ks (p + k) s)
    ∙ ap₂ ◌+◌ (length-reverse (part k p s) ∙ part_length k p s (omega arith)) (length-turned ks (p + k) s (omega arith))

length-array : (n : ℕ) (ks : List ℕ) (p : ℕ) (s : List ℕ) → p + n * size ks ≤ length s
    → length (array_at n ks p s) ≡ n * size ks
length-array zero ks p s h = omega arith
length-array (suc n) ks p s h =
    omega (
      arith,
      length-append (turned_at ks p s) (array_at n ks (p + size ks) s),
      length-turned ks p s (omega arith),
      length-array n ks (p + size ks) s (omega arith),
    )

-- an array behind another
array-append : (a b : ℕ) (ks : List ℕ) (p : ℕ) (s : List ℕ)
    → array_at (a + b) ks p s ≡ array_at a ks p s ++ array_at b ks (p + a * size ks) s
array-append zero b ks p s =
    let e : zero + b ≡ b = omega arith in
    let f : p ≡ p + zero * size ks = omega arith in
    ap₂ (λ (n q : ℕ). array_at n ks q s) e f
array-append (suc a) b ks p s =
    let e : suc a + b ≡ suc (a + b) = omega arith in
    let f : p + size ks + a * size ks ≡ p + suc a * size ks = omega arith in
    ap (λ (n : ℕ). array_at n ks p s) e
    ∙ ap (λ (l : List ℕ). turned_at ks p s ++ l) (array-append a b ks (p + size ks) s)
    ∙ ap (λ (q : ℕ). turned_at ks p s ++ (array_at a ks (p + size ks) s ++ array_at b ks q s)) f
    ∙ sym (append_assoc (turned_at ks p s) (array_at a ks (p + size ks) s) (array_at b ks (p + suc a * size ks) s))

-- i scalars written, and one more behind them
pub array-next : (ks s t : List ℕ) (i p : ℕ) {u v : List ℕ} → p + (i + 1) * size ks ≤ length s → p ≤ length t
    → u ≡ put p (array_at i ks p s) t → v ≡ put (p + i * size ks) (turned_at ks (p + i * size ks) s) u
    → v ≡ put p (array_at (i + 1) ks p s) t
array-next ks s t i p h room e f =
    let q : ℕ = p + i * size ks in
    let a : List ℕ = array_at i ks p s in
    let b : List ℕ = turned_at ks q s in
    let long : length a ≡ i * size ks = length-array i ks p s (omega arith) in
    f
    ∙ ap (put q b) e
    ∙ ap (λ (n : ℕ). put (p + n) b (put p a t)) (sym long)
    ∙ put-append a b t p room
    ∙ ap (λ (l : List ℕ). put p (a ++ l) t) (sym (append-nil b))
    ∙ ap (λ (l : List ℕ). put p l t) (sym (array-append i 1 ks p s))

pub array-none : (n p : ℕ) (s t : List ℕ) → t ≡ put p (array_at n [] p s) t
array-none n p s t = sym (ap (λ (l : List ℕ). put p l t) (none n p) ∙ put-nil t p)
  where
    none : (n p : ℕ) → array_at n [] p s ≡ []
    none zero p = refl
    none (suc n) p = none n (p + 0)

-- single octets are copied
pub array-octets : (n p : ℕ) (s : List ℕ) → p + n ≤ length s → array_at n (1 ∷ []) p s ≡ part n p s
array-octets zero p s h = refl
array-octets (suc n) p s h =
    let e : drop p s ≡ get_or s p 0 ∷ drop (suc p) s = drop-cons s p 0 (omega arith) in
    rw (e, add-one) (ap (◌∷◌ (get_or s p 0)) (array-octets n (suc p) s (omega arith)))

-- scalars of four octets taken two at a time
pub array-twice : (n p : ℕ) (s : List ℕ) → array_at (n * 2) (4 ∷ []) p s ≡ array_at n (4 ∷ 4 ∷ []) p s
array-twice zero p s = let e : zero * 2 ≡ 0 = omega arith in ap (λ (m : ℕ). array_at m (4 ∷ []) p s) e
array-twice (suc n) p s =
    let e : suc n * 2 ≡ suc (suc (n * 2)) = omega arith in
    let f : p + 4 + 4 ≡ p + 8 = omega arith in
    ap (λ (m : ℕ). array_at m (4 ∷ []) p s) e
    ∙ ap (λ (q : ℕ). reverse (part 4 p s) ++ [] ++
    (reverse (part 4 (p + 4) s) ++ [] ++ array_at (n * 2) (4 ∷ []) q s)) f
    ∙ rw (array-twice n (p + 8) s, append-nil (reverse (part 4 p s)), append-nil (reverse (part 4 (p + 4) s)))
    (sym (append_assoc (reverse (part 4 p s)) (reverse (part 4 (p + 4) s)) (array_at n (4 ∷ 4 ∷ []) (p + 8) s)))

-- a number read least significant octet first, written big endian
turned-number : (w q x : ℕ) (s : List ℕ) → Octets s → q + w ≤ length s → x ≡ little (part w q s)
    → big_of w x ≡ reverse (part w q s)
turned-number w q x s o h e =
    let long : length (part w q s) ≡ w = part_length w q s h in
    ap (big_of w) e
    ∙ ap (λ (n : ℕ). big_of n (little (part w q s))) (sym long)
    ∙ ap reverse (little-again (part w q s) (octets-take w (drop q s) (octets-drop q s o)))

-- i scalars that are numbers of w octets written, and one more behind them
pub number-next : (w i p x : ℕ) (s t : List ℕ) {u v : List ℕ} → Octets s → p + (i + 1) * w ≤ length s → p ≤ length t
    → u ≡ put p (array_at i (w ∷ []) p s) t → x ≡ little (part w (p + i * w) s) → v ≡ put (p + i * w) (big_of w x) u
    → v ≡ put p (array_at (i + 1) (w ∷ []) p s) t
number-next w i p x s t {u} {v} o h room e d f =
    let q : ℕ = p + i * w in
    let one : w ≡ w + 0 = sym (add-zero w) in
    let turned : big_of w x ≡ turned_at (w ∷ []) q s =
    turned-number w q x s o (omega arith) d ∙ sym (append-nil (reverse (part w q s))) in
    array-next (w ∷ []) s t i p (subst (λ (m : ℕ). p + (i + 1) * m ≤ length s) one h) room e
    (subst (λ (m : ℕ). v ≡ put (p + i * m) (turned_at (w ∷ []) (p + i * m) s) u) one
    (f ∙ ap (λ (l : List ℕ). put q l u) turned))

-- a scalar of two parts
pub turned_two : (j k q x y : ℕ) (s t : List ℕ) {u v : List ℕ} → Octets s → q + j + k ≤ length s → q ≤ length t
    → x ≡ little (part j q s) → u ≡ put q (big_of j x) t → y ≡ little (part k (q + j) s)
    → v ≡ put (q + j) (big_of k y) u
    → v ≡ put q (turned_at (j ∷ k ∷ []) q s) t
turned_two j k q x y s t o h room d e f g =
    let a : List ℕ = reverse (part j q s) in
    let b : List ℕ = reverse (part k (q + j) s) in
    let long : length a ≡ j = length-reverse (part j q s) ∙ part_length j q s (omega arith) in
    g
    ∙ ap₂ (λ (l r : List ℕ). put (q + j) l r) (turned-number k (q + j) y s o h f) (e
    ∙ ap (λ (l : List ℕ). put q l t) (turned-number j q x s o (omega arith) d))
    ∙ ap (λ (n : ℕ). put (q + n) b (put q a t)) (sym long)
    ∙ put-append a b t q room
    ∙ ap (λ (l : List ℕ). put q (a ++ l) t) (sym (append-nil b))
