-- What is written reads back equal; a datagram taken apart, written again, is the same but for padding; the length of what is written.
-- Assumes nothing.
-- the values that the fields of a PD header can hold
use mathlib.Core.Path.{◌≡◌, refl, sym, ap, ◌∙◌}
use mathlib.Core.List.{List, ◌++◌}
use mathlib.Core.Bool.{true}
use Prim.Native.Nat.{ℕ, ◌+◌, ◌-◌, ◌^◌, ◌<◌, ◌≤◌}
use native.Mathlib.Omega.{arith}
use lib.ListN.{length, take, drop, replicate}
use Rattle.octets.specs.Octets.{Octets, part}
use Rattle.octets.proofs.Parts.{part_length}
use Rattle.octets.proofs.Numbers.{big-back}
use Rattle.refusal.specs.Refusal.{first_of, answer}
use Rattle.telegram.specs.declared.Family.TheVariants as family
use Rattle.telegram.specs.Telegram.{padded, common_of, dataset_of}
use Rattle.telegram.proofs.Finished.{length-telegram}
use Rattle.telegram.proofs.Reading.{sound, whole}
use Rattle.telegram.proofs.Writing.{granted}
use Rattle.telegram.proofs.RoundTrip.{InRange, with_length, common-back, dataset-back, bigs, common-again, telegram-again}
use Rattle.telegram.proofs.Passing.{granted-passes, sound-granted}
use Rattle.pd.specs.declared.PdHeader.{PdHeader}
use Rattle.std.specs.Prelude.{Ok, Result}
use Rattle.refusal.specs.declared.Refusal.{Refusal}
use Rattle.pd.specs.Pd.{header_of, take_pd, front_of, frame_of, write_checks_pd}
use Rattle.pd.proofs.Taken.{taken}

pub record PdInRange (h : PdHeader) : Type 0 where
  pub common : InRange h.common
  pub reserved : h.reserved < 2 ^ 32
  pub reply-com-id : h.reply_com_id < 2 ^ 32
  pub reply-ip-address : h.reply_ip_address < 2 ^ 32

-- the header as it is read back: datasetLength is that of the dataset
abbrev pub read_back : PdHeader → ℕ → PdHeader
read_back h n =
    record {
      common = with_length h.common n;
      reserved = h.reserved;
      reply_com_id = h.reply_com_id;
      reply_ip_address = h.reply_ip_address;
    }

-- the length of what is written: header, dataset and padding
pub frame-length : (h : PdHeader) (s : List ℕ) → length (frame_of h s) ≡ 40 + padded (length s)
frame-length h s = length-telegram (front_of h (length s)) s

common-frame : (h : PdHeader) → PdInRange h → (s : List ℕ) → length s < 2 ^ 32 → common_of (frame_of h s) ≡ with_length h.common (length s)
common-frame h r s k = common-back h.common r.common (length s) k (drop 24 (frame_of h s))

header-back : (h : PdHeader) → PdInRange h → (s : List ℕ) → length s < 2 ^ 32 → header_of (frame_of h s) ≡ read_back h (length s)
header-back h r s k =
    cc (
      common-frame h r s k,
      big-back 4 h.reserved r.reserved,
      big-back 4 h.reply_com_id r.reply-com-id,
      big-back 4 h.reply_ip_address r.reply-ip-address,
    )

-- taking apart what was written gives the fields back, for every header that the writer grants
pub written-reads-back : (h : PdHeader) → PdInRange h → (s : List ℕ) (room : ℕ) → first_of (write_checks_pd h (length s) room) ≡ Ok tt
    → take_pd (frame_of h s) ≡ Ok (read_back h (length s))
written-reads-back h r s room e =
    let g = granted family.Pd h.common (length s) true room e in
    let n : length s < 2 ^ 32 = omega (arith, g.limit) in
    ap (λ (v : Result (Unit {0}) Refusal). answer v (header_of (frame_of h s)))
    (granted-passes family.Pd h.common (front_of h (length s)) s true room refl (common-frame h r s n) g)
    ∙ ap Ok (header-back h r s n)

-- and the dataset
pub written-dataset-back : (h : PdHeader) → PdInRange h → (s : List ℕ) → length s ≤ 1432 → dataset_of family.Pd (frame_of h s) ≡ s
written-dataset-back h r s k =
    ap (λ (n : ℕ). part n 40 (frame_of h s)) (ap (λ (c : PdHeader). c.common.dataset_length) (header-back h r s (omega arith)))
    ∙ dataset-back (front_of h (length s)) s 36 refl

-- a datagram taken apart, written again, is the same but for padding
pub taken-writes-back : (d : List ℕ) (h : PdHeader) → Octets d → take_pd d ≡ Ok h
    → frame_of h (dataset_of family.Pd d) ≡ take (40 + h.common.dataset_length) d ++ replicate (padded h.common.dataset_length - h.common.dataset_length) 0
taken-writes-back d h o e =
    let t = taken d h e in
    let w = whole family.Pd d t.0 in
    let s = sound family.Pd d w.0 in
    let n : ℕ = (common_of d).dataset_length in
    let long : 36 + 4 + n ≤ length d = omega (arith, w.1) in
    let l : length (dataset_of family.Pd d) ≡ n = part_length n 40 d long in
    let front : front_of (header_of d) (length (dataset_of family.Pd d)) ≡ take 36 d =
    let f28 = bigs d o 4 24 (common-again d o l (omega arith)) refl (omega arith) in
    let f32 = bigs d o 4 28 f28 refl (omega arith) in
    bigs d o 4 32 f32 refl (omega arith) in
    ap (λ (x : PdHeader). frame_of x (dataset_of family.Pd d)) (sym t.1)
    ∙ telegram-again d o 36 n front s.check long
    ∙ ap (λ (x : PdHeader). take (40 + x.common.dataset_length) d ++ replicate (padded x.common.dataset_length - x.common.dataset_length) 0) t.1

-- the writer grants what was taken apart, where there is room for it
pub taken-is-granted : (d : List ℕ) (h : PdHeader) (room : ℕ) → take_pd d ≡ Ok h → length d ≤ room
    → first_of (write_checks_pd h (length (dataset_of family.Pd d)) room) ≡ Ok tt
taken-is-granted d h room e k =
    let t = taken d h e in
    let w = whole family.Pd d t.0 in
    let n : ℕ = (common_of d).dataset_length in
    let l : length (dataset_of family.Pd d) ≡ n = part_length n 40 d (omega (arith, w.1)) in
    ap (λ (x : PdHeader). first_of (write_checks_pd x (length (dataset_of family.Pd d)) room)) (sym t.1)
    ∙ ap (λ (m : ℕ). first_of (write_checks_pd (header_of d) m room)) l
    ∙ sound-granted family.Pd d n true room (sound family.Pd d w.0) refl refl (omega (arith, w.1))
