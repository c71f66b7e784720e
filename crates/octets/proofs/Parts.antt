-- Parts of a list taken octet by octet, and a list overwritten from its front: laws over the number of octets.
-- Assumes nothing.
use mathlib.Core.Path.{◌≡◌, refl, sym, ap, ◌∙◌}
use mathlib.Core.List.{List, [], ◌∷◌, ◌++◌, append_assoc}
use Prim.Native.Nat.{ℕ, zero, suc, ◌+◌, ◌<◌, ◌≤◌}
use native.Mathlib.Nat.{add-suc, add-zero, le_of_lt}
use native.Mathlib.Numerals.{add-one}
use native.Mathlib.Omega.{arith}
use lib.ListN.{length, get_or, take, drop, set, length-take, length-drop}
use lib.Seq.{drop-cons, sets, take-suc, append_snoc, set_at, length-take-le, drop-drop}
use Rattle.octets.specs.Octets.{part, put}

pub part_length : (n k : ℕ) (s : List ℕ) → k + n ≤ length s → length (part n k s) ≡ n
part_length n k s h = simp (length-take, length-drop) (omega arith)

-- the n octets of s behind the first i at k
abbrev pub each : ℕ → ℕ → ℕ → List ℕ → List ℕ
each zero i k s = []
each (suc n) i k s = get_or s (k + i) 0 ∷ each n (suc i) k s

each-is : (n i k : ℕ) (s : List ℕ) → k + i + n ≤ length s → take n (drop (k + i) s) ≡ each n i k s
each-is zero i k s h = refl
each-is (suc n) i k s h =
    ap (take (suc n)) (drop-cons s (k + i) 0 (omega arith))
    ∙ ap (λ (j : ℕ). get_or s (k + i) 0 ∷ take n (drop j s)) (sym (add-suc k i))
    ∙ ap (◌∷◌ (get_or s (k + i) 0)) (each-is n (suc i) k s (omega arith))

pub part-each : (n k : ℕ) (s : List ℕ) → k + suc n ≤ length s → part (suc n) k s ≡ get_or s k 0 ∷ each n 1 k s
part-each n k s h =
    ap (λ (j : ℕ). take (suc n) (drop j s)) (sym (add-zero k))
    ∙ each-is (suc n) 0 k s (omega arith)
    ∙ ap (λ (j : ℕ). get_or s j 0 ∷ each n 1 k s) (add-zero k)

-- s with the octets of t stored behind the first i at k
abbrev pub stored : List ℕ → ℕ → ℕ → List ℕ → List ℕ
stored s k i [] = s
stored s k i (x ∷ t) = stored (set s (k + i) x) k (suc i) t

stored_is : (t s : List ℕ) (k i : ℕ) → stored s k i t ≡ sets s (k + i) t
stored_is [] s k i = refl
stored_is (x ∷ t) s k i = stored_is t (set s (k + i) x) k (suc i) ∙ ap (λ (j : ℕ). sets (set s (k + i) x) j t) (add-suc k i)

-- y in the place of the m octets of s at k
pub put-mid : (k m : ℕ) (s y : List ℕ) → m ≡ length y → take k s ++ (y ++ drop m (drop k s)) ≡ put k y s
put-mid k m s y e = rw (drop-drop, e) (sym (append_assoc (take k s) y (drop (k + length y) s)))

-- t with its first i octets overwritten by those of s
abbrev pub over : List ℕ → List ℕ → ℕ → List ℕ
over s t i = take i s ++ drop i t

pub over-more : (s t : List ℕ) (i : ℕ) → i < length s → i < length t → set (over s t i) i (get_or s i 0) ≡ over s t (i + 1)
over-more s t i h k =
    rw (add-one, drop-cons t i 0, take-suc s i 0, append_snoc)
    (set_at (take i s) (get_or t i 0) (drop (suc i) t) (get_or s i 0) i (length-take-le i s (le_of_lt h)))
