-- Fields read one after the other: what a line says where one is there, and where it is not.
-- Assumes nothing.
use mathlib.Core.Path.{◌≡◌, refl, ap, ◌∙◌}
use mathlib.Core.Bool.{Bool, true, false, cond, ◌&&◌}
use mathlib.Core.List.{List, [], ◌∷◌, ◌++◌, append-nil}
use Prim.Native.Nat.{ℕ, zero, suc, ◌+◌, ◌-◌, ◌<◌}
use native.Mathlib.Omega.{arith}
use native.Mathlib.Numerals.{unary_clauses}
use borrow.Author.Tests.{ltb-true}
use lib.Dec.{eqb, ltb}
use lib.ListN.{length, get_or, drop, drop_of_length-le}
use Rattle.std.specs.Prelude.{Option, Some, None}
use Rattle.octets.specs.Octets.{part, put}
use Rattle.hexadecimal.specs.Hex.{is_hex, number}
use Rattle.hexadecimal.proofs.Digits.{and_left}
use Rattle.line.specs.Line.{has_digits, eight}
use Rattle.line.specs.Read.{Reads, with_first, words_in}

-- where there is nothing, nothing is said of it
pub none_cond : {A B : Type 0} (b : Bool) (x : A) (y : B) → None ≡ cond b (Some x) None → None ≡ cond b (Some y) None
none_cond true x y e = absurd (cc)
none_cond false x y e = refl

pub none_false : {A : Type 0} (b : Bool) (x : A) → None ≡ cond b (Some x) None → b ≡ false
none_false true x e = absurd (cc)
none_false false x e = refl

pub some_true : {A : Type 0} (b : Bool) (x v : A) → Some v ≡ cond b (Some x) None → (b ≡ true) × (v ≡ x)
some_true true x v e = (refl, grind arith)
some_true false x v e = absurd (cc)

-- a field that is not there, and one that is
module _ {V : Type 0} {n : ℕ} {said : List ℕ → V} {s after : List ℕ} where
  pub read_none : Reads n said s None after → has_digits s n ≡ false
  read_none r = none_false (has_digits s n) (said (part n 1 s)) r.answer

  pub read_some : {v : V} → Reads n said s (Some v) after →
      (has_digits s n ≡ true) × (v ≡ said (part n 1 s)) × (after ≡ drop (n + 1) s)
  read_some {v} r =
      let e = some_true (has_digits s n) (said (part n 1 s)) v r.answer in
      (e.0, e.1, r.rest ∙ ap (λ (b : Bool). cond b (drop (n + 1) s) s) e.0)

-- a number before others
pub first_none : (x : ℕ) (o : Option (List ℕ)) → None ≡ with_first x o → None ≡ o
first_none x None e = refl
first_none x (Some xs) e = absurd (cc)

pub first_some : (x : ℕ) (xs v : List ℕ) → Some v ≡ with_first x (Some xs) → v ≡ x ∷ xs
first_some x xs v e = grind arith

-- numbers before others
abbrev pub joined : List ℕ → Option (List ℕ) → Option (List ℕ)
joined [] o = o
joined (x ∷ xs) o = with_first x (joined xs o)

pub joined_end : (xs : List ℕ) (v : ℕ) (o : Option (List ℕ)) → joined (xs ++ v ∷ []) o ≡ joined xs (with_first v o)
joined_end [] v o = refl
joined_end (x ∷ xs) v o = ap (with_first x) (joined_end xs v o)

pub joined_none : (xs : List ℕ) → joined xs None ≡ None
joined_none [] = refl
joined_none (x ∷ xs) = ap (with_first x) (joined_none xs)

pub joined_all : (xs : List ℕ) → joined xs (Some []) ≡ Some xs
joined_all [] = refl
joined_all (x ∷ xs) = ap (with_first x) (joined_all xs)

-- the numbers of a line where one is left at least
pub words_none : (n i : ℕ) (s : List ℕ) → i < n → has_digits s 8 ≡ false → words_in (n - i) s ≡ None
words_none zero i s h e = absurd (omega arith)
words_none (suc n) zero s h e = simp unary_clauses
    (ap (λ (b : Bool). cond b (with_first (eight (number 0 (part 8 1 s))) (words_in n (drop 9 s))) None) e)
words_none (suc n) (suc i) s h e = simp unary_clauses (words_none n i s (omega arith) e)

pub words_more : (n i : ℕ) (s : List ℕ) → i < n → has_digits s 8 ≡ true →
    words_in (n - i) s ≡ with_first (eight (number 0 (part 8 1 s))) (words_in (n - (i + 1)) (drop 9 s))
words_more zero i s h e = absurd (omega arith)
words_more (suc n) zero s h e = simp unary_clauses
    (ap (λ (b : Bool). cond b (with_first (eight (number 0 (part 8 1 s))) (words_in n (drop 9 s))) None) e)
words_more (suc n) (suc i) s h e = simp unary_clauses (simp unary_clauses at (words_more n i s (omega arith) e))

-- digits that were found stand within the line
pub digits_within : (s : List ℕ) (n : ℕ) → has_digits s n ≡ true → n < length s
digits_within s n e =
    ltb-true n (length s) (and_left (ltb n (length s)) (eqb (get_or s 0 0) 32 && is_hex (part n 1 s)) e)

-- a part as long as the whole takes its place
pub put_whole : (x t : List ℕ) → length x ≡ length t → put 0 x t ≡ x
put_whole x t e = ap (λ (d : List ℕ). x ++ d) (drop_of_length-le t {i = 0 + length x} (omega arith)) ∙ append-nil x
