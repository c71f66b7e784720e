-- Arrays of scalars as walks: how far one goes, and what it writes.
-- Assumes nothing.
use mathlib.Core.Path.{◌≡◌, refl, sym, ap, ◌∙◌}
use mathlib.Core.List.{List, [], ◌∷◌, reverse}
use mathlib.Core.Bool.{Bool, true, false, cond}
use Prim.Native.Nat.{ℕ, zero, suc, ◌+◌, ◌-◌, ◌*◌, ◌≤◌, ◌<◌}
use native.Mathlib.Omega.{arith}
use borrow.Author.Tests.{ltb-true, ltb-false, le-ltb}
use lib.Dec.{ltb}
use lib.ListN.{length, take, drop, length-drop}
use lib.Seq.{drop-drop}
use Rattle.refusal.specs.declared.Refusal.TheVariants as refusal
use Rattle.octets.specs.Octets.{put}
use Rattle.scalars.specs.Scalars.{size, turned_at, array_at}
use Rattle.dataset.specs.Walk.{stopped, walked, then, times, turned}
use Rattle.dataset.specs.Steps.{step_of, Stepped}
use Rattle.std.specs.Prelude.{Ok}

turned-is : (ks : List ℕ) (p : ℕ) (s : List ℕ) → p + size ks ≤ length s
    → turned ks (drop p s) ≡ walked (drop (p + size ks) s) (turned_at ks p s)
turned-is [] p s h = grind arith
turned-is (k ∷ ks) p s h =
    let short : ltb (length (drop p s)) k ≡ false = le-ltb (length (drop p s)) k (omega (arith, length-drop p s)) in
    let rest : p + k + size ks ≡ p + (k + size ks) = omega arith in
    rw (short, drop-drop k p s, turned-is ks (p + k) s (omega arith), rest)

-- data that end in a scalar
turned-short : (ks : List ℕ) (p : ℕ) (s : List ℕ) → p ≤ length s → length s < p + size ks
    → turned ks (drop p s) ≡ stopped refusal.DataLength
turned-short [] p s h m = absurd (omega arith)
turned-short (k ∷ ks) p s h m = go (ltb (length (drop p s)) k) refl λ i. turned-short ks (p + k) s i (omega arith)
  where
    go : (b : Bool) → ltb (length (drop p s)) k ≡ b
        → (p + k ≤ length s → turned ks (drop (p + k) s) ≡ stopped refusal.DataLength)
        → cond b (stopped refusal.DataLength)
        (then (walked (drop k (drop p s)) (reverse (take k (drop p s)))) (turned ks)) ≡ stopped refusal.DataLength
    go true e f = refl
    go false e f =
        let i : p + k ≤ length s = omega (arith, ltb-false (length (drop p s)) k e, length-drop p s) in
        rw (drop-drop k p s, f i)

-- an array that the data hold
pub times-is : (ks : List ℕ) (n p : ℕ) (s : List ℕ) → p + n * size ks ≤ length s
    → times n (turned ks) (drop p s) ≡ walked (drop (p + n * size ks) s) (array_at n ks p s)
times-is ks zero p s h = grind arith
times-is ks (suc n) p s h =
    let rest : p + size ks + n * size ks ≡ p + suc n * size ks = omega arith in
    rw (turned-is ks p s (omega arith), times-is ks n (p + size ks) s (omega arith), rest)

-- an array in which the data end
pub times-short : (ks : List ℕ) (n p : ℕ) (s : List ℕ) → p ≤ length s → length s < p + n * size ks
    → times n (turned ks) (drop p s) ≡ stopped refusal.DataLength
times-short ks zero p s h m = absurd (omega arith)
times-short ks (suc n) p s h m =
    go (ltb (length s) (p + size ks)) refl λ i. times-short ks n (p + size ks) s i (omega arith)
  where
    go : (b : Bool) → ltb (length s) (p + size ks) ≡ b
        → (p + size ks ≤ length s → times n (turned ks) (drop (p + size ks) s) ≡ stopped refusal.DataLength)
        → then (turned ks (drop p s)) (times n (turned ks)) ≡ stopped refusal.DataLength
    go true e f = rw (turned-short ks p s h (ltb-true _ _ e))
    go false e f =
        let i : p + size ks ≤ length s = ltb-false _ _ e in
        rw (turned-is ks p s i, f i)

-- an array as a step of a walk
pub array_steps : (ks s t u : List ℕ) (n p : ℕ) (write : Bool) → p + n * size ks ≤ length s → (write ≡ false → u ≡ t)
    → (write ≡ true → u ≡ put p (array_at n ks p s) t)
    → Stepped (times n (turned ks) (drop p s)) (length s) p write t (Ok (p + n * size ks)) u
array_steps ks s t u n p write h judges writes =
    let w = times-is ks n p s h in
    let e : p + n * size ks ≡ length s - length (drop (p + n * size ks) s) =
    omega (arith, length-drop (p + n * size ks) s) in
    record {
      answers = ap Ok e ∙ sym (ap (step_of (length s)) w);
      judges = judges;
      writes = λ q left done f. let d : array_at n ks p s ≡ done = cc in writes q ∙ ap (λ (l : List ℕ). put p l t) d;
    }
