-- What a line says by its fields: where one is there, and where it is not; the target of a room; a verb among others.
-- Assumes nothing.
use mathlib.Core.Path.{◌≡◌, refl, sym, ap, ap₂, ◌∙◌}
use mathlib.Core.Bool.{Bool, true, false, cond, ◌&&◌}
use mathlib.Core.List.{List, [], ◌∷◌}
use mathlib.Core.Option.{Option, none, some}
use Prim.Native.Nat.{ℕ, zero, suc, ◌+◌, ◌*◌, ◌/◌, ◌%◌, ◌≤◌}
use native.Mathlib.Omega.{arith}
use lib.Dec.{eqb, leb}
use borrow.Author.Tests.{eqb-true}
use lib.ListN.{length, get_or, take, drop, length-drop, replicate}
use lib.Seq.{take_at, drop-drop}
use Rattle.hexadecimal.proofs.Digits.{and_left, and_right, octets-length}
use Rattle.std.specs.Prelude.{Option as Maybe, Some, None}
use Rattle.octets.specs.Octets.{part, put}
use Rattle.hexadecimal.specs.Hex.{is_hex, number, octets_of}
use Rattle.line.specs.Line.{has_digits, has_last, is_nothing, target_after, eight}
use Rattle.line.specs.Line.{with_number, with_field, with_octets, with_end, target_of}
use Rattle.answer.specs.declared.Room.{Room}
use Rattle.answer.specs.Said.{Answered}
use Rattle.answer.proofs.Said.{not_answered}
use Rattle.line.specs.Read.{Reads, with_first, words_in, last_in}
use Rattle.line.proofs.Reading.{none_false, some_true, read_none, read_some, first_none, first_some}

first-of : (k n x : ℕ) → k ≤ n → take k (replicate n x) ≡ replicate k x
first-of zero n x h = refl
first-of (suc k) zero x h = absurd (omega arith)
first-of (suc k) (suc n) x h = ap (λ (l : List ℕ). x ∷ l) (first-of k n x (omega arith))

-- the target of a room
pub target_is : (t : List ℕ) (k : ℕ) → t ≡ replicate 65536 0xAA → k ≤ 65536 → take k t ≡ target_of k
unfolding target_of
target_is t k e h = ap (take k) e ∙ first-of k 65536 0xAA h

-- a number or octets that are there, or not
module _ {A V : Type 0} {n : ℕ} {said : List ℕ → V} {b s after : List ℕ} where
  pub number_none : (k : ℕ → List ℕ → Option A) → b ≡ s → Reads n said b None after → with_number s n k ≡ none
  unfolding with_number
  number_none k e r =
      rw (← e) (ap (λ (x : Bool). cond x (k (number 0 (part n 1 b)) (drop (n + 1) b)) none) (read_none r))

  pub number_some : {v : V} (k : ℕ → List ℕ → Option A) → b ≡ s → Reads n said b (Some v) after →
      with_number s n k ≡ k (number 0 (part n 1 b)) after
  unfolding with_number
  number_some k e r =
      let f = read_some r in
      rw (← e) (ap (λ (x : Bool). cond x (k (number 0 (part n 1 b)) (drop (n + 1) b)) none) f.0
      ∙ ap (k (number 0 (part n 1 b))) (sym f.2))

-- what is said of it
pub read_value : {V : Type 0} {n : ℕ} {said : List ℕ → V} {b after : List ℕ} {v : V} → Reads n said b (Some v) after →
    v ≡ said (part n 1 b)
read_value r = (read_some r).1

module _ {A : Type 0} (n : ℕ) {b s after : List ℕ} (k : List ℕ → List ℕ → Option A) where
  pub octets_none : b ≡ s → Reads (2 * n) octets_of b None after → with_field s n k ≡ none
  unfolding with_field
  octets_none e r =
      rw (← e) (ap (λ (x : Bool). cond x (k (octets_of (part (2 * n) 1 b)) (drop (2 * n + 1) b)) none) (read_none r))

  pub octets_some : {v : List ℕ} → b ≡ s → Reads (2 * n) octets_of b (Some v) after → with_field s n k ≡ k v after
  unfolding with_field
  octets_some e r =
      let f = read_some r in
      rw (← e) (ap (λ (x : Bool). cond x (k (octets_of (part (2 * n) 1 b)) (drop (2 * n + 1) b)) none) f.0
      ∙ ap₂ k (sym f.1) (sym f.2))

-- n numbers of 8 digits, one behind the other
abbrev pub with_words : {A : Type 0} → ℕ → List ℕ → (List ℕ → List ℕ → Option A) → Option A
with_words zero s k = k [] s
with_words (suc n) s k = with_number s 8 (λ x rest. with_words n rest (λ xs left. k (eight x ∷ xs) left))

module _ {A : Type 0} (n : ℕ) (s : List ℕ) (k : List ℕ → List ℕ → Option A) where
  first : ℕ
  first = eight (number 0 (part 8 1 s))

  behind : Option A
  behind = with_words n (drop 9 s) (λ xs left. k (first ∷ xs) left)

  none_there : (b : Bool) → None ≡ cond b (with_first first (words_in n (drop 9 s))) None →
      (None ≡ words_in n (drop 9 s) → behind ≡ none) → cond b behind none ≡ none
  none_there false d h = refl
  none_there true d h = h (first_none first (words_in n (drop 9 s)) d)

  some_there : (b : Bool) (v : List ℕ) (o : Maybe (List ℕ)) (left : List ℕ) →
      Some v ≡ cond b (with_first first o) None →
      ((xs : List ℕ) → Some xs ≡ o → behind ≡ k (first ∷ xs) left) → cond b behind none ≡ k v left
  some_there false v o left d h = absurd (cc)
  some_there true v None left d h = absurd (cc)
  some_there true v (Some xs) left d h =
      h xs refl ∙ ap (λ (l : List ℕ). k l left) (sym (first_some first xs v d))

pub words_none : {A : Type 0} (n : ℕ) (s : List ℕ) (k : List ℕ → List ℕ → Option A) → None ≡ words_in n s →
    with_words n s k ≡ none
unfolding with_number first behind
words_none zero s k e = absurd (cc)
words_none (suc n) s k e =
    none_there n s k (has_digits s 8) e
    (words_none n (drop 9 s) (λ xs left. k (eight (number 0 (part 8 1 s)) ∷ xs) left))

pub words_some : {A : Type 0} (n : ℕ) (s v : List ℕ) (k : List ℕ → List ℕ → Option A) → Some v ≡ words_in n s →
    with_words n s k ≡ k v (drop (9 * n) s)
unfolding with_number first behind
words_some zero s v k e = ap (λ (l : List ℕ). k l s) (grind arith)
words_some (suc n) s v k e =
    let p : 9 + 9 * n ≡ 9 * suc n = omega arith in
    some_there n s k (has_digits s 8) v (words_in n (drop 9 s)) (drop (9 * suc n) s) e
    (λ xs d. words_some n (drop 9 s) xs (λ ys left. k (eight (number 0 (part 8 1 s)) ∷ ys) left) d
    ∙ ap (k (eight (number 0 (part 8 1 s)) ∷ xs)) (drop-drop (9 * n) 9 s ∙ ap (λ (m : ℕ). drop m s) p))

-- the last field, and the line's end
module _ {A : Type 0} (s : List ℕ) where
  pub last_none : (k : List ℕ → A) (t : List ℕ) → 66000 ≡ length t → None ≡ last_in s (length t) →
      with_octets s k ≡ none
  unfolding with_octets
  last_none k t l e =
      ap (λ (b : Bool). cond b (some (k (octets_of (drop 1 s)))) none)
      (ap (has_last s) l ∙ none_false (has_last s (length t)) (length s / 2) e)

  pub last_some : (k : List ℕ → A) (n : ℕ) (t o : List ℕ) → 66000 ≡ length t → Some n ≡ last_in s (length t) →
      o ≡ target_after s t → with_octets s k ≡ some (k (take n o))
  unfolding with_octets
  last_some k n t o l e w =
      let f = some_true (has_last s (length t)) (length s / 2) n e in
      let x : List ℕ = octets_of (drop 1 s) in
      let d : has_last s 66000 ≡ true = ap (has_last s) l ∙ f.0 in
      let odd : length s % 2 ≡ 1 =
      eqb-true (length s % 2) 1
      (and_left (eqb (length s % 2) 1) (leb (length s / 2) (length t) && is_hex (drop 1 s))
      (and_right (eqb (get_or s 0 0) 32) (eqb (length s % 2) 1 && (leb (length s / 2) (length t) && is_hex (drop 1 s))) f.0)) in
      let z : length x ≡ n = octets-length (drop 1 s) ∙ omega (arith, odd, f.1, length-drop 1 s) in
      let q : o ≡ put 0 x t = w ∙ ap (λ (b : Bool). cond b (put 0 x t) t) f.0 in
      ap (λ (b : Bool). cond b (some (k x)) none) d
      ∙ ap (λ (y : List ℕ). some (k y)) (sym (ap (take n) q ∙ take_at x (drop (0 + length x) t) n z))

  pub end_some : (x : A) {u : Unit {0}} → Some u ≡ cond (is_nothing s) (Some tt) None → with_end s x ≡ some x
  unfolding with_end
  end_some x {u} e = ap (λ (b : Bool). cond b (some x) none) (some_true (is_nothing s) tt u e).0

  pub end_none : (x : A) → None ≡ cond {A = Maybe (Unit {0})} (is_nothing s) (Some tt) None → with_end s x ≡ none
  unfolding with_end
  end_none x e = ap (λ (b : Bool). cond b (some x) none) (none_false (is_nothing s) tt e)

-- a verb among others
module _ {A : Type 0} {z : A} (b : Bool) (x y : A) where
  pub chosen : b ≡ true → x ≡ z → cond b x y ≡ z
  chosen e h = ap (λ (c : Bool). cond c x y) e ∙ h

  pub passed : b ≡ false → y ≡ z → cond b x y ≡ z
  passed e h = ap (λ (c : Bool). cond c x y) e ∙ h

-- a line that is none of a verb's own fills nothing
pub unanswered : {x : Option (List (List ℕ))} {r : Maybe (Unit {0})} (a : Room) → r ≡ None → x ≡ none → Answered x a r a
unanswered a e h = rw e (not_answered h a)
