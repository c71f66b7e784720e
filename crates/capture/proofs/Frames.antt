-- What a line of the form tells of its parts.
-- Assumes nothing.
use mathlib.Core.Path.{◌≡◌, refl, sym, ap, ◌∙◌, subst}
use mathlib.Core.Bool.{Bool, true, false, ◌&&◌, and-false, true≢false}
use mathlib.Core.List.{List, [], ◌∷◌}
use Prim.Native.Nat.{ℕ, ◌+◌, ◌*◌, ◌-◌, ◌%◌, ◌^◌, ◌<◌, ◌≤◌}
use native.Mathlib.Nat.{add-zero, zero-add, pow-le-pow_right}
use native.Mathlib.Omega.{arith}
use borrow.Author.Tests.{ltb-true, ltb-false, leb-true, eqb-true}
use lib.Dec.{ltb, leb, eqb}
use lib.ListN.{length, take, drop, length-drop, get_or-eq_default}
use lib.Seq.{take_all}
use Rattle.hexadecimal.specs.Hex.{digit, is_hex, number}
use Rattle.capture.specs.declared.Frame.{Frame}
use Rattle.std.specs.Prelude.{Some, None}
use Rattle.capture.specs.Frame.{space_at, digits_at, has_pair, is_head, is_datagram, is_frame, datagram_of, fields_of, frame_of}
use Rattle.hexadecimal.proofs.Digits.{and_left, and_right, digit-more, octets-length}

-- a number stays below 16 for each of its digits
number-below : (s : List ℕ) (c i : ℕ) → is_hex s ≡ true → c < 16 ^ i → number c s < 16 ^ (i + length s)
number-below [] c i e h = rw add-zero h
number-below (x ∷ s) c i e h =
    let d : digit x < 16 = ltb-true (digit x) 16 (and_left (ltb (digit x) 16) (is_hex s) e) in
    let m : i + 1 + length s ≡ i + length (x ∷ s) = omega arith in
    subst (λ (j : ℕ). number (16 * c + digit x) s < 16 ^ j) m
    (number-below s (16 * c + digit x) (i + 1) (and_right (ltb (digit x) 16) (is_hex s) e) (digit-more c (digit x) i h d))

-- 8 digits fit 32 bits
pub word_fits : (s : List ℕ) → is_hex s ≡ true → length s ≤ 8 → number 0 s < 2 ^ 32
word_fits s e h =
    let b : number 0 s < 16 ^ length s = rw zero-add at (number-below s 0 0 e (omega arith)) in
    omega (arith, pow-le-pow_right {n = 16} (omega arith) h)

-- a part from a place to the line's end
pub rest : (s : List ℕ) (at : ℕ) → take (length s - at) (drop at s) ≡ drop at s
rest s at = take_all (length s - at) (drop at s) (omega (arith, length-drop at s))

-- a line shorter than a place has no space there
pub no-space : (at : ℕ) (s : List ℕ) → length s ≤ at → space_at at s ≡ false
no-space at s h = ap (λ (x : ℕ). eqb x 32) (get_or-eq_default s 0 h)

-- a line that ends before its third space is no frame
pub short : (s : List ℕ) → length s ≤ 34 → is_frame s ≡ false
short s h = rw (no-space 34 s h) (simp and-false)

-- the two fields at the front of a line
pub record Pair (s : List ℕ) : Type 0 where
  pub first : digits_at 8 0 s ≡ true
  pub second : digits_at 8 9 s ≡ true

pub pair : (s : List ℕ) → has_pair s ≡ true → Pair s
pair s e = record {
  first = and_left (digits_at 8 0 s) (space_at 8 s && digits_at 8 9 s) e;
  second = and_right (space_at 8 s) (digits_at 8 9 s) (and_right (digits_at 8 0 s) (space_at 8 s && digits_at 8 9 s) e);
}

pub record Head (s : List ℕ) : Type 0 where
  pub long : length s ≡ 17
  pub counters : Pair s

pub head : (s : List ℕ) → is_head s ≡ true → Head s
head s e = record {
  long = eqb-true (length s) 17 (and_left (eqb (length s) 17) (has_pair s) e);
  counters = pair s (and_right (eqb (length s) 17) (has_pair s) e);
}

-- the fields of a frame
pub record Whole (s : List ℕ) : Type 0 where
  pub long : 35 ≤ length s
  pub addresses : Pair s
  pub time : digits_at 16 18 s ≡ true
  pub most : length (drop 35 s) ≤ 2944
  pub datagram : is_hex (drop 35 s) ≡ true

-- a space at a place stands within the line
within : (at : ℕ) (s : List ℕ) → space_at at s ≡ true → at < length s
within at s e = go (ltb at (length s)) refl
  where
    go : (b : Bool) → ltb at (length s) ≡ b → at < length s
    go true l = ltb-true at (length s) l
    go false l = absurd (true≢false (sym e ∙ no-space at s (ltb-false at (length s) l)))

pub whole : (s : List ℕ) → is_frame s ≡ true → Whole s
whole s e =
    let d = drop 35 s in
    let e₁ = and_right (has_pair s) (space_at 17 s && (digits_at 16 18 s && (space_at 34 s && is_datagram d))) e in
    let e₂ = and_right (space_at 17 s) (digits_at 16 18 s && (space_at 34 s && is_datagram d)) e₁ in
    let e₃ = and_right (digits_at 16 18 s) (space_at 34 s && is_datagram d) e₂ in
    let e₄ = and_right (space_at 34 s) (is_datagram d) e₃ in
    record {
      long = within 34 s (and_left (space_at 34 s) (is_datagram d) e₃);
      addresses = pair s (and_left (has_pair s) (space_at 17 s && (digits_at 16 18 s && (space_at 34 s && is_datagram d))) e);
      time = and_left (digits_at 16 18 s) (space_at 34 s && is_datagram d) e₂;
      most = leb-true (length d) 2944 (and_left (leb (length d) 2944) (eqb (length d % 2) 0 && is_hex d) e₄);
      datagram = and_right (eqb (length d % 2) 0) (is_hex d) (and_right (leb (length d) 2944) (eqb (length d % 2) 0 && is_hex d) e₄);
    }

-- a frame's datagram has at most 1,472 octets
pub frame-room : (s : List ℕ) (f : Frame) → Some f ≡ frame_of s → f.octets ≤ 1472
frame-room s f e = go (is_frame s) refl
  where
    go : (b : Bool) → is_frame s ≡ b → f.octets ≤ 1472
    go true h =
        let r : Some f ≡ Some (fields_of s) = e ∙ rw h refl in
        let n : f.octets ≡ length (datagram_of s) = cc in
        omega (arith, octets-length (drop 35 s), (whole s h).most)
    go false h =
        let r : Some f ≡ None = e ∙ rw h refl in
        let z : ◌≡◌ {A = ℕ} 0 1 = cc in
        omega arith

-- the code's order of the tests of a frame is that of the definition
pub front : (s : List ℕ) → (has_pair s && (space_at 17 s && (digits_at 16 18 s && space_at 34 s))) && is_datagram (drop 35 s) ≡ is_frame s
front s = go (has_pair s) (space_at 17 s) (digits_at 16 18 s) (space_at 34 s) (is_datagram (drop 35 s))
  where
    go : (a b c d e : Bool) → (a && (b && (c && d))) && e ≡ (a && (b && (c && (d && e))))
    go false b c d e = refl
    go true false c d e = refl
    go true true false d e = refl
    go true true true d e = refl

pub ruleset form = (front, rest, short)

-- what reading a frame takes from its form
pub ruleset frame_parts = (whole, rest, octets-length, length-drop)
