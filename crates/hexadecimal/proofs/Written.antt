-- Octets written in a part from its end, and a part overwritten whole.
-- Assumes nothing.
use mathlib.Core.Path.{◌≡◌, refl, sym, ap, ap₂, ◌∙◌}
use mathlib.Core.List.{List, [], ◌∷◌, ◌++◌, append_assoc}
use Prim.Native.Nat.{ℕ, zero, suc, ◌+◌, ◌/◌, ◌%◌, ◌<◌}
use native.Mathlib.Nat.{zero-add}
use native.Mathlib.Numerals.{add-one}
use native.Mathlib.Omega.{arith}
use lib.ListN.{length, take, drop, set, length-append, length-set}
use lib.Seq.{drop-cons, take-set-le, drop-set-lt, get_or-set_same, append_snoc, take-length}
use Rattle.octets.specs.Octets.{put}
use Rattle.octets.proofs.Parts.{over}
use Rattle.hexadecimal.specs.Hex.{digit_of, digits_of}

drop-set : (t : List ℕ) (m y : ℕ) → m < length t → drop m (set t m y) ≡ y ∷ drop (suc m) t
drop-set t m y h =
    let l : m < length (set t m y) = simp length-set h in
    drop-cons (set t m y) m 0 l ∙ ap₂ ◌∷◌ (get_or-set_same t m y 0 h) (drop-set-lt (suc m) t m y (omega arith))

pub put_last : (k y : ℕ) (s t : List ℕ) → k + length s < length t
    → put k s (set t (k + length s) y) ≡ put k (s ++ (y ∷ [])) t
put_last k y s t h =
    let e : suc (k + length s) ≡ k + length (s ++ (y ∷ [])) = simp length-append (omega arith) in
    ap₂ (λ (a b : List ℕ). a ++ s ++ b) (take-set-le k t (k + length s) y (omega arith)) (drop-set t (k + length s) y h)
    ∙ sym (append_snoc (take k t ++ s) y (drop (suc (k + length s)) t))
    ∙ ap₂ (λ (a b : List ℕ). a ++ b) (append_assoc (take k t) s (y ∷ [])) (ap (λ (j : ℕ). drop j t) e)

pub digits-length : (n x : ℕ) → length (digits_of n x) ≡ n
digits-length zero x = refl
digits-length (suc n) x =
    length-append (digits_of n (x / 16)) (digit_of (x % 16) ∷ []) ∙ ap (λ (m : ℕ). m + 1) (digits-length n (x / 16))
    ∙ add-one n

-- overwritten whole from the front
pub put-over : (s t : List ℕ) (i : ℕ) → i ≡ length s → over s t i ≡ put 0 s t
put-over s t i e = rw (e, take-length, zero-add)

pub digits_more : (k j x : ℕ) (t : List ℕ) → k + j < length t
    → put k (digits_of j (x / 16)) (set t (k + j) (digit_of (x % 16))) ≡ put k (digits_of (suc j) x) t
digits_more k j x t h =
    let e : j ≡ length (digits_of j (x / 16)) = sym (digits-length j (x / 16)) in
    ap (λ (m : ℕ). put k (digits_of j (x / 16)) (set t (k + m) (digit_of (x % 16)))) e
    ∙ put_last k (digit_of (x % 16)) (digits_of j (x / 16)) t (omega arith)
