-- Where a line ends: LF looked for octet by octet and in parts; a line gathered.
-- Assumes nothing.
use mathlib.Core.Path.{◌≡◌, refl, sym, ap, ◌∙◌}
use mathlib.Core.Bool.{Bool, true, false, cond, ◌||◌, or_assoc, or-false, true≢false}
use mathlib.Core.List.{List, [], ◌∷◌}
use Prim.Native.Nat.{ℕ, zero, suc, ◌+◌, ◌<◌, ◌≤◌, max}
use native.Mathlib.Nat.{zero-add}
use native.Mathlib.Numerals.{add-one}
use native.Mathlib.Omega.{arith}
use borrow.Author.Tests.{le-leb, lt-leb, ltb-true, ltb-false}
use lib.Dec.{eqb}
use Rattle.std.specs.Prelude.{Some, None, nat_lt}
use Rattle.std.specs.List.{position, position_or_len}
use Rattle.std.proofs.lemmas.List.Recursion.{is_position_or_len}
use lib.ListN.{length, get_or, take, drop, drop_of_length-le}
use lib.Seq.{drop-cons}
use Rattle.octets.specs.Octets.{put}
use Rattle.answer.specs.Answer.{room}
use Rattle.line.specs.Lines.{has_end, until_end, gathered}

pub end_more : (s : List ℕ) (f : Bool) (i : ℕ) → i < length s → (f || has_end (drop i s)) ≡ has_end s → ((f || eqb (get_or s i 0) 10) || has_end (drop (i + 1) s)) ≡ has_end s
end_more s f i h e =
    or_assoc f (eqb (get_or s i 0) 10) (has_end (drop (i + 1) s))
    ∙ ap (λ (j : ℕ). f || (eqb (get_or s i 0) 10 || has_end (drop j s))) (add-one i)
    ∙ ap (λ (t : List ℕ). f || has_end t) (sym (drop-cons s i 0 h))
    ∙ e

pub end-all : (s : List ℕ) (f : Bool) (i : ℕ) → length s ≤ i → (f || has_end (drop i s)) ≡ has_end s → f ≡ has_end s
end-all s f i h e = sym (ap (λ (t : List ℕ). f || has_end t) (drop_of_length-le s h) ∙ or-false f) ∙ e

-- octets without LF are passed over
pub passed : (s : List ℕ) (n : ℕ) → n ≤ length s → has_end (take n s) ≡ false → n + until_end (drop n s) ≡ until_end s
passed s zero h e = zero-add (until_end s)
passed [] (suc n) h e = absurd (omega arith)
passed (x ∷ s) (suc n) h e = go (eqb x 10) e (passed s n (omega arith))
  where
    go : (b : Bool) → (b || has_end (take n s)) ≡ false → (has_end (take n s) ≡ false → n + until_end (drop n s) ≡ until_end s) → suc n + until_end (drop n s) ≡ cond b 0 (suc (until_end s))
    go true d k = absurd (true≢false d)
    go false d k = let m : n + until_end (drop n s) ≡ until_end s = k d in omega arith

-- how many octets stand before the first LF, in the words of the library
until-position : (s : List ℕ) → until_end s ≡ position_or_len (λ (x : ℕ). eqb x 10) s
until-position s = is_position_or_len until_end (λ (x : ℕ). eqb x 10) refl (λ x xs. ap (cond (eqb x 10) 0) (omega arith)) s

module _ (s : List ℕ) where
  pub found-at : (k : ℕ) → Some k ≡ position (λ (x : ℕ). eqb x 10) s → (k ≡ until_end s) × (k < length s)
  found-at k e = go (nat_lt (position_or_len (λ (x : ℕ). eqb x 10) s) (length s)) refl
    where
      go : (b : Bool) → nat_lt (position_or_len (λ (x : ℕ). eqb x 10) s) (length s) ≡ b → (k ≡ until_end s) × (k < length s)
      go true h =
          let r : Some k ≡ Some (position_or_len (λ (x : ℕ). eqb x 10) s) = e ∙ ap (λ (b : Bool). cond b (Some (position_or_len (λ (x : ℕ). eqb x 10) s)) None) h in
          let q : k ≡ position_or_len (λ (x : ℕ). eqb x 10) s = cc in
          (q ∙ sym (until-position s), omega (arith, q, ltb-true (position_or_len (λ (x : ℕ). eqb x 10) s) (length s) h))
      go false h =
          let r : Some k ≡ None = e ∙ ap (λ (b : Bool). cond b (Some (position_or_len (λ (x : ℕ). eqb x 10) s)) None) h in
          absurd (cc)

until-le : (s : List ℕ) → until_end s ≤ length s
until-le [] = omega arith
until-le (x ∷ s) = go (eqb x 10) (until-le s)
  where
    go : (b : Bool) → until_end s ≤ length s → cond b 0 (suc (until_end s)) ≤ length (x ∷ s)
    go true h = omega arith
    go false h = omega arith

pub found-none : (s : List ℕ) → None ≡ position (λ (x : ℕ). eqb x 10) s → until_end s ≡ length s
found-none s e = go (nat_lt (position_or_len (λ (x : ℕ). eqb x 10) s) (length s)) refl
  where
    go : (b : Bool) → nat_lt (position_or_len (λ (x : ℕ). eqb x 10) s) (length s) ≡ b → until_end s ≡ length s
    go true h =
        let r : None ≡ Some (position_or_len (λ (x : ℕ). eqb x 10) s) = e ∙ ap (λ (b : Bool). cond b (Some (position_or_len (λ (x : ℕ). eqb x 10) s)) None) h in
        absurd (cc)
    go false h = omega (arith, until-le s, until-position s, ltb-false (position_or_len (λ (x : ℕ). eqb x 10) s) (length s) h)

-- a line with more octets: they fit, or it is too long
module _ (more : List ℕ) (begun : ℕ) (line : List ℕ) where
  pub gather-fits : (after : List ℕ) → begun + length more ≤ length line → after ≡ put begun more line → room (begun + length more) after ≡ gathered more (room begun line)
  unfolding gathered
  gather-fits after h e =
      ap (room (begun + length more)) e
      ∙ sym (ap (λ (b : Bool). cond b (room (begun + length more) (put begun more line)) (room (max begun (length line + 1)) line)) (le-leb (begun + length more) (length line) h))

  pub gather-over : (r : ℕ) → length line < begun + length more → r ≡ max begun (length line + 1) → room r line ≡ gathered more (room begun line)
  unfolding gathered
  gather-over r h e =
      ap (λ (n : ℕ). room n line) e
      ∙ sym (ap (λ (b : Bool). cond b (room (begun + length more) (put begun more line)) (room (max begun (length line + 1)) line)) (lt-leb (begun + length more) (length line) h))
