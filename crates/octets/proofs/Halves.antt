-- Parts written one behind the other, and nothing written.
-- Assumes nothing.
use mathlib.Core.Path.{◌≡◌, sym, ap, ap₂, ◌∙◌}
use mathlib.Core.List.{List, [], ◌++◌, append_assoc, append-nil}
use Prim.Native.Nat.{ℕ, ◌+◌, ◌≤◌}
use native.Mathlib.Nat.{add-zero}
use native.Mathlib.Omega.{arith}
use lib.ListN.{length, take, drop, length-append, take-append-drop}
use lib.Seq.{take_at, drop_at, drop-drop, length-take-le}
use Rattle.octets.specs.Octets.{put}

-- ys written behind xs
pub put-append : (xs ys o : List ℕ) (k : ℕ) → k ≤ length o → put (k + length xs) ys (put k xs o) ≡ put k (xs ++ ys) o
put-append xs ys o k h =
    let j : ℕ = k + length xs in
    let f : List ℕ = take k o ++ xs in
    let e : length f ≡ j = length-append (take k o) xs ∙ ap (λ (n : ℕ). n + length xs) (length-take-le k o h) in
    let a : take j (f ++ drop j o) ≡ f = take_at f (drop j o) j e in
    let b : drop (j + length ys) (f ++ drop j o) ≡ drop (j + length ys) o =
    sym (drop-drop (length ys) j (f ++ drop j o)) ∙ ap (drop (length ys)) (drop_at f (drop j o) j e) ∙ drop-drop (length ys) j o in
    let n : j + length ys ≡ k + length (xs ++ ys) = omega (arith, length-append xs ys) in
    ap₂ (λ (l r : List ℕ). l ++ ys ++ r) a b
    ∙ ap (λ (l : List ℕ). l ++ drop (j + length ys) o) (append_assoc (take k o) xs ys)
    ∙ ap (λ (m : ℕ). take k o ++ (xs ++ ys) ++ drop m o) n

pub put-nil : (o : List ℕ) (k : ℕ) → put k [] o ≡ o
put-nil o k = ap₂ (λ (l : List ℕ) (n : ℕ). l ++ drop n o) (append-nil (take k o)) (add-zero k) ∙ take-append-drop k o
