-- Descriptions in a run: the one at its head, and the look-up from one to the next.
-- Assumes nothing.
use Rattle.std.proofs.Common.{◌≡◌, refl, sym, ap, ◌∙◌, ℕ, zero, suc, ◌-◌, ◌*◌, ◌/◌, ◌≤◌, ◌<◌, arith, List, [], ◌∷◌}
use Rattle.std.proofs.Common.{Bool, true, false, cond, ◌||◌, eqb, ltb, leb, length, take, drop, map, get_or}
use mathlib.Core.Bool.{or-false}
use Rattle.std.specs.Prelude.{Some, None, Ok}
use Rattle.std.specs.List.{list_any, IsSplitAt}
use Rattle.std.specs.Simd.{first_chunks}
use borrow.Author.Tests.{le-ltb}
use lib.ListN.{length-drop}
use Rattle.std.proofs.lemmas.List.{take_all}
use Rattle.dataset.specs.Descriptions.{element_of, elements_of, typeless, malformed, Description, headed, scan}
use Rattle.dataset.specs.Steps.{described_by}

-- the elements of a description as the run has them, two numbers each
pub paired : (n : ℕ) (run : List ℕ) → 2 * n ≤ length run
    → map element_of (first_chunks 2 n (take (2 * n) run)) ≡ elements_of n run
paired zero run h = refl
paired (suc n) [] h = absurd (omega arith)
paired (suc n) (t ∷ []) h = absurd (omega arith)
paired (suc n) (t ∷ c ∷ run) h =
    let e : 2 * suc n ≡ suc (suc (2 * n)) = omega arith in
    rw e (ap (λ es. record { type = t; count = c } ∷ es) (paired n run (omega arith)))

-- a type 0 among them
pub typeless-any : (es : List (List ℕ)) → typeless (map element_of es) ≡ list_any (λ e. eqb (get_or e 0 0) 0) es
typeless-any [] = refl
typeless-any (e ∷ es) = ap (λ b. eqb (get_or e 0 0) 0 || b) (typeless-any es)

-- a description that is not malformed
pub record Sound (n : ℕ) (run : List ℕ) : Type 0 where
  pub some : n ≡ 0 → ⊥
  pub long : 2 * n ≤ length run
  pub typed : typeless (elements_of n run) ≡ false

pub is-sound : (x n : ℕ) (run : List ℕ) → malformed x n run ≡ false → Sound n run
is-sound x n run e = grind arith

-- more descriptions than numbers need not be counted
scan-same : (m k id : ℕ) (run : List ℕ) → length run ≤ m → length run ≤ k → scan m id run ≡ scan k id run
scan-same zero zero id run h j = refl
scan-same zero (suc k) id [] h j = refl
scan-same zero (suc k) id (x ∷ run) h j = absurd (omega arith)
scan-same (suc m) zero id [] h j = refl
scan-same (suc m) zero id (x ∷ run) h j = absurd (omega arith)
scan-same (suc m) (suc k) id [] h j = refl
scan-same (suc m) (suc k) id (x ∷ []) h j = refl
scan-same (suc m) (suc k) id (x ∷ n ∷ run) h j =
    rw (scan-same m k id (drop (2 * n) run) (omega (arith, length-drop (2 * n) run))
    (omega (arith, length-drop (2 * n) run)))

-- a sound one is the one sought, or is passed
pub record Passes (m id : ℕ) (run : List ℕ) (d : Description) : Type 0 where
  pub shorter : length d.rest < length run
  pub on : scan m id run ≡ cond (eqb d.id id) (Ok d.elements) (scan m id d.rest)

pub passes : (m id : ℕ) (run : List ℕ) (d : Description) → length run ≤ m → Some d ≡ headed run → Passes m id run d
passes m id [] d k e = grind arith
passes m id (x ∷ []) d k e = grind arith
passes zero id (x ∷ n ∷ run) d k e = absurd (omega arith)
passes (suc m) id (x ∷ n ∷ run) d k e = go (malformed x n run) refl e
  where
    here : Description
    here = record { id = x; elements = elements_of n run; rest = drop (2 * n) run }

    go : (b : Bool) → malformed x n run ≡ b → Some d ≡ cond b None (Some here) → Passes (suc m) id (x ∷ n ∷ run) d
    go true f e = grind arith
    go false f e =
        let same : d ≡ here = cc in
        rw same (record {
          shorter = omega (arith, length-drop (2 * n) run);
          on =
              rw f
              (ap (cond (eqb x id) (Ok (elements_of n run)))
              (scan-same m (suc m) id (drop (2 * n) run) (omega (arith, length-drop (2 * n) run))
              (omega (arith, length-drop (2 * n) run))));
        })

-- the description at the head of a run as the code reads it: its tests are those of `malformed`
pub headed-is : (run front rest : List ℕ) (es : List (List ℕ)) → 2 ≤ length run
    → IsSplitAt (take (length run - 2) (drop 2 run)) (2 * get_or run 1 0) front rest
    → es ≡ first_chunks 2 (length front / 2) front → length es ≡ length front / 2
    → headed run ≡ cond (leb (get_or run 0 0) 16 || eqb (length es) 0 || list_any (λ e. eqb (get_or e 0 0) 0) es)
    None (Some (described_by (get_or run 0 0) es rest))
headed-is [] front rest es two split pairs many = absurd (omega arith)
headed-is (x ∷ []) front rest es two split pairs many = absurd (omega arith)
headed-is (x ∷ n ∷ run) front rest es two split pairs many =
    let all : take (length (x ∷ n ∷ run) - 2) run ≡ run = take_all _ run (omega arith) in
    let long : 2 * n ≤ length run = omega (arith, split.0, ap length all) in
    let half : length front / 2 ≡ n = omega (arith, split.3) in
    let front-is : front ≡ take (2 * n) run = split.1 ∙ ap (take (2 * n)) all in
    let rest-is : drop (2 * n) run ≡ rest = sym (split.2 ∙ ap (drop (2 * n)) all) in
    let es-is : es ≡ first_chunks 2 n (take (2 * n) run) =
    pairs ∙ ap (λ m. first_chunks 2 m front) half ∙ ap (first_chunks 2 n) front-is in
    let elements : elements_of n run ≡ map element_of es = sym (ap (map element_of) es-is ∙ paired n run long) in
    let number : n ≡ length es = sym (many ∙ half) in
    let typed : typeless (elements_of n run) ≡ list_any (λ e. eqb (get_or e 0 0) 0) es =
    ap typeless elements ∙ typeless-any es in
    let fits : ltb (length run) (2 * n) ≡ false = le-ltb (length run) (2 * n) long in
    let one : malformed x n run ≡ (leb x 16 || eqb (length es) 0 || list_any (λ e. eqb (get_or e 0 0) 0) es) =
    rw (fits, typed, or-false, number) refl in
    rw (one, elements, rest-is) refl
