-- Parts written one behind the other: what a target holds after each.
-- Assumes nothing.
-- l is the target o with xs, which is k octets, written at its start
use mathlib.Core.Path.{◌≡◌, refl, sym, ap, ap₂, ◌∙◌}
use mathlib.Core.List.{List, [], ◌++◌}
use Prim.Native.Nat.{ℕ, ◌+◌, ◌-◌, ◌≤◌}
use native.Mathlib.Nat.{zero-add}
use native.Mathlib.Omega.{arith}
use lib.ListN.{length, take, drop, length-append, take-append-drop}
use lib.Seq.{take_at, drop_at, drop-drop, length-take-le}
use Rattle.octets.specs.Octets.{put}

pub record Begun (o : List ℕ) (k : ℕ) (xs l : List ℕ) : Type 0 where
  pub long : length xs ≡ k
  pub holds : l ≡ put 0 xs o

pub put-start : (xs o : List ℕ) → put 0 xs o ≡ xs ++ drop (length xs) o
put-start xs o = ap (λ (n : ℕ). xs ++ drop n o) (zero-add (length xs))

pub begun : (o xs : List ℕ) (k : ℕ) {l : List ℕ} → length xs ≡ k → l ≡ put 0 xs o → Begun o k xs l
begun o xs k e q = record { long = e; holds = q }

-- nothing written yet
pub none : (o : List ℕ) → Begun o 0 [] o
none o = record { long = refl; holds = refl }

-- the target's own first k octets
pub kept : (o : List ℕ) (k : ℕ) → k ≤ length o → Begun o k (take k o) o
kept o k h =
    let l : length (take k o) ≡ k = length-take-le k o h in
    record {
      long = l;
      holds = sym (put-start (take k o) o ∙ ap (λ (n : ℕ). take k o ++ drop n o) l ∙ take-append-drop k o);
    }

joined : (xs ys o : List ℕ) (k : ℕ) → length xs ≡ k → put k ys (put 0 xs o) ≡ put 0 (xs ++ ys) o
joined xs ys o k e =
    let s : put 0 xs o ≡ xs ++ drop k o = put-start xs o ∙ ap (λ (n : ℕ). xs ++ drop n o) e in
    let a : take k (xs ++ drop k o) ≡ xs = take_at xs (drop k o) k e in
    let b : drop (k + length ys) (xs ++ drop k o) ≡ drop (k + length ys) o =
    sym (drop-drop (length ys) k (xs ++ drop k o)) ∙ ap (drop (length ys)) (drop_at xs (drop k o) k e) ∙ drop-drop (length ys) k o in
    let n : k + length ys ≡ length (xs ++ ys) = sym (length-append xs ys ∙ ap (λ (m : ℕ). m + length ys) e) in
    ap (put k ys) s
    ∙ ap₂ (λ (l r : List ℕ). l ++ ys ++ r) a b
    ∙ ap (λ (m : ℕ). xs ++ ys ++ drop m o) n
    ∙ sym (put-start (xs ++ ys) o)

-- ys written behind xs
pub next : {o xs l : List ℕ} {k : ℕ} → Begun o k xs l → (ys : List ℕ) (j : ℕ) → k + length ys ≡ j → {m : List ℕ} → m ≡ put k ys l → Begun o j (xs ++ ys) m
next {o} {xs} {l} {k} w ys j e q =
    record {
      long = length-append xs ys ∙ ap (λ (n : ℕ). n + length ys) w.long ∙ e;
      holds = q ∙ ap (put k ys) w.holds ∙ joined xs ys o k w.long;
    }

-- what is longer than all that was written covers it
pub covers : {o xs l : List ℕ} {k : ℕ} → Begun o k xs l → (t : List ℕ) → k ≤ length t → put 0 t l ≡ put 0 t o
covers {o} {xs} {l} {k} w t h =
    let n : ℕ = length t - k in
    let e : length t ≡ k + n = omega arith in
    let s : l ≡ xs ++ drop k o = w.holds ∙ put-start xs o ∙ ap (λ (m : ℕ). xs ++ drop m o) w.long in
    let d : drop (k + n) (xs ++ drop k o) ≡ drop (k + n) o =
    sym (drop-drop n k (xs ++ drop k o)) ∙ ap (drop n) (drop_at xs (drop k o) k w.long) ∙ drop-drop n k o in
    put-start t l
    ∙ ap₂ (λ (m : ℕ) (r : List ℕ). t ++ drop m r) e s
    ∙ ap (λ (r : List ℕ). t ++ r) d
    ∙ ap (λ (m : ℕ). t ++ drop m o) (sym e)
    ∙ sym (put-start t o)

-- what was written is what the target begins with
pub begins : {o xs l : List ℕ} {k : ℕ} → Begun o k xs l → take k l ≡ xs
begins {o} {xs} {l} {k} w = ap (take k) (w.holds ∙ put-start xs o) ∙ take_at xs (drop (length xs) o) k w.long
