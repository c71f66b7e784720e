-- Octets taken into the register at once, as one number, are octets taken one after the other.
-- Assumes nothing.
use mathlib.Core.Path.{◌≡◌, sym, ap, ap₂, ◌∙◌}
use mathlib.Core.List.{List, [], ◌∷◌}
use Prim.Native.Nat.{ℕ, suc, ◌+◌, ◌*◌, ◌^◌, ◌≤◌}
use native.Mathlib.Nat.{mul-one}
use native.Mathlib.Omega.{arith}
use lib.Bits.{bit_xor, xor_comm, xor_zero_r, xor_shifted}
use lib.ListN.{length, take, drop, length-drop}
use lib.Seq.{drop-drop, length-take-le}
use Rattle.std.proofs.lemmas.List.{take-take, drop-take}
use Rattle.octets.specs.Octets.{Octets, little, part}
use Rattle.octets.proofs.Numbers.{tail-octets, octets-take, octets-drop}
use Rattle.fcs_steps.specs.Steps.{bits}
use Rattle.fcs.specs.Fcs.{register}
use Rattle.fcs.proofs.Xor.{xor_assoc}
use Rattle.fcs.proofs.Linear.{bits-xor, bits-add, bits-down}
use Rattle.fcs.proofs.Joined.{register-split}

-- the upper four of eight octets
upper : (x : ℕ) → bits 64 (x * 2 ^ 32) ≡ bits 32 x
upper x = bits-add 32 32 (x * 2 ^ 32) ∙ ap (bits 32) (bits-down 32 x)

-- eight octets are four, and four more
both-fours : (x w : ℕ) → bit_xor (bits 64 (w * 2 ^ 32)) (bits 64 (x * 2 ^ 0)) ≡ bits 32 (bit_xor (bits 32 x) w)
both-fours x w =
    ap₂ bit_xor (upper w) (ap (bits 64) (mul-one x) ∙ bits-add 32 32 x) ∙ xor_comm (bits 32 w) (bits 32 (bits 32 x))
    ∙ sym (bits-xor 32 (bits 32 x) w)

-- no octets
none : (c : ℕ) → bits 0 (bit_xor c 0) ≡ c
unfolding bits
none c = xor_zero_r c

-- the octets of a list, taken into the register at once
pub at_once : (s : List ℕ) (c : ℕ) → Octets s → bits (8 * length s) (bit_xor c (little s)) ≡ register c s
at_once [] c o = none c
at_once (b ∷ s) c o =
    let p : ℕ = little s in
    let d : ℕ = bits 8 (bit_xor c b) in
    let more : 8 * suc (length s) ≡ 8 + 8 * length s = omega arith in
    let parts : b + 256 * p ≡ bit_xor b (p * 2 ^ 8) =
    let sum : b + 256 * p ≡ p * 2 ^ 8 + b = omega arith in sum ∙ sym (xor_shifted p 8 b (o.below 0))
    ∙ xor_comm (p * 2 ^ 8) b in
    let first : bits 8 (bit_xor c (b + 256 * p)) ≡ bit_xor d p =
    ap (bits 8) (ap (bit_xor c) parts ∙ sym (xor_assoc c b (p * 2 ^ 8)))
    ∙ bits-xor 8 (bit_xor c b) (p * 2 ^ 8) ∙ ap (bit_xor d) (bits-down 8 p) in
    ap (λ (n : ℕ). bits n (bit_xor c (b + 256 * p))) more
    ∙ bits-add 8 (8 * length s) (bit_xor c (b + 256 * p))
    ∙ ap (bits (8 * length s)) first
    ∙ at_once s d (tail-octets b s o)

module _ (s : List ℕ) (o : Octets s) where
  -- n octets of s from i on, as one number
  pub steps : (n i c : ℕ) → i + n ≤ length s
      → register c (drop i s) ≡ register (bits (8 * n) (bit_xor c (little (part n i s)))) (drop (i + n) s)
  steps n i c h =
      let l : length (part n i s) ≡ n = length-take-le n (drop i s) (rw length-drop (omega arith)) in
      let p : Octets (part n i s) = octets-take n (drop i s) (octets-drop i s o) in
      register-split c n (drop i s)
      ∙ ap₂ register
      (sym (at_once (part n i s) c p) ∙ ap (λ (m : ℕ). bits (8 * m) (bit_xor c (little (part n i s)))) l)
      (drop-drop n i s)

  -- a turn over four octets, which write u
  pub turned-four : (i c : ℕ) {u a : ℕ} → i + 4 ≤ length s → u ≡ little (part 4 i s)
      → a ≡ bits 64 (bit_xor c u * 2 ^ 32)
      → register c (drop i s) ≡ register a (drop (i + 4) s)
  turned-four i c {u} h hu ha =
      steps 4 i c h
      ∙ ap (λ (x : ℕ). register x (drop (i + 4) s))
      (sym (ha ∙ upper (bit_xor c u) ∙ ap (λ (x : ℕ). bits 32 (bit_xor c x)) hu))

  -- a turn over eight, of which the lower four write u and the upper four v
  pub turned-eight : (i c : ℕ) {u v a b : ℕ} → i + 4 + 4 ≤ length s → u ≡ little (part 4 i s)
      → v ≡ little (part 4 (i + 4) s)
      → a ≡ bits 64 (v * 2 ^ 32) → b ≡ bits 64 (bit_xor c u * 2 ^ 0)
      → register c (drop i s) ≡ register (bit_xor a b) (drop (i + 4 + 4) s)
  turned-eight i c {u} {v} {a} {b} h hu hv ha hb =
      let both : bit_xor a b ≡ bits 32 (bit_xor (bits 32 (bit_xor c u)) v) = ap₂ bit_xor ha hb
      ∙ both-fours (bit_xor c u) v in
      let read : bits 32 (bit_xor (bits 32 (bit_xor c u)) v) ≡ bits 32
      (bit_xor (bits 32 (bit_xor c (little (part 4 i s)))) (little (part 4 (i + 4) s))) =
      ap₂ (λ (x y : ℕ). bits 32 (bit_xor (bits 32 (bit_xor c x)) y)) hu hv in
      steps 4 i c (omega arith) ∙ steps 4 (i + 4) (bits 32 (bit_xor c (little (part 4 i s)))) h
      ∙ ap (λ (x : ℕ). register x (drop (i + 4 + 4) s)) (sym (both ∙ read))

  -- a turn over the i-th of the chunks of eight octets
  pub turned-chunk : (i c : ℕ) {e : List ℕ} {u v a b : ℕ} → (i + 1) * 8 ≤ length s → e ≡ take 8 (drop (i * 8) s)
      → u ≡ little (part 4 0 e) → v ≡ little (part 4 4 e) → a ≡ bits 64 (v * 2 ^ 32) → b ≡ bits 64 (bit_xor c u * 2 ^ 0)
      → register c (drop (i * 8) s) ≡ register (bit_xor a b) (drop ((i + 1) * 8) s)
  turned-chunk i c {e} {u} {v} {a} {b} h he hu hv ha hb =
      let n : ℕ = i * 8 in
      let low : part 4 0 e ≡ part 4 n s = ap (take 4) he ∙ take-take 4 8 (drop n s) (omega arith) in
      let high : part 4 4 e ≡ part 4 (n + 4) s =
      ap (part 4 4) he ∙ ap (take 4) (drop-take 4 4 (drop n s)) ∙ take-take 4 4 (drop 4 (drop n s)) (omega arith)
      ∙ ap (take 4) (drop-drop 4 n s) in
      let behind : n + 4 + 4 ≡ (i + 1) * 8 = omega arith in
      turned-eight n c (omega arith) (hu ∙ ap little low) (hv ∙ ap little high) ha hb
      ∙ ap (λ (m : ℕ). register (bit_xor a b) (drop m s)) behind
