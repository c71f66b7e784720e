-- A telegram written and taken apart, and one taken apart and written again: what PD and MD have in common.
-- Assumes nothing.
-- the values that the fields of a header can hold
use mathlib.Core.Path.{◌≡◌, refl, sym, ap, ap₂, ◌∙◌}
use mathlib.Core.List.{List, ◌++◌, append_assoc}
use Prim.Native.Nat.{ℕ, ◌+◌, ◌-◌, ◌^◌, ◌<◌, ◌≤◌}
use native.Mathlib.Omega.{arith}
use lib.ListN.{length, take, drop, replicate, length-append, length-drop}
use lib.Seq.{take_at, drop_at, take-add, take_all, take-append-le, drop-append-le}
use Rattle.fcs.specs.Fcs.{crc32}
use Rattle.octets.specs.Octets.{Octets, little, big, little_of, big_of, part}
use Rattle.octets.proofs.Parts.{part_length}
use Rattle.octets.proofs.Numbers.{length-little, little-back, big-back, little-again, big-again, octets-take, octets-drop}
use Rattle.telegram.specs.declared.Common.{Common}
use Rattle.telegram.specs.Telegram.{padded, common_of, common_octets, telegram_of}

pub record InRange (c : Common) : Type 0 where
  pub sequence-counter : c.sequence_counter < 2 ^ 32
  pub protocol-version : c.protocol_version < 2 ^ 16
  pub msg-type : c.msg_type < 2 ^ 16
  pub com-id : c.com_id < 2 ^ 32
  pub etb-topo-cnt : c.etb_topo_cnt < 2 ^ 32
  pub op-trn-topo-cnt : c.op_trn_topo_cnt < 2 ^ 32

-- the same fields with another datasetLength
abbrev pub with_length : Common → ℕ → Common
with_length c n =
    record {
      sequence_counter = c.sequence_counter;
      protocol_version = c.protocol_version;
      msg_type = c.msg_type;
      com_id = c.com_id;
      etb_topo_cnt = c.etb_topo_cnt;
      op_trn_topo_cnt = c.op_trn_topo_cnt;
      dataset_length = n;
    }

-- the first 24 octets read back
pub common-back : (c : Common) → InRange c → (n : ℕ) → n < 2 ^ 32 → (t : List ℕ) → common_of (common_octets c n ++ t) ≡ with_length c n
common-back c r n h t =
    cc (
      big-back 4 c.sequence_counter r.sequence-counter,
      big-back 2 c.protocol_version r.protocol-version,
      big-back 2 c.msg_type r.msg-type,
      big-back 4 c.com_id r.com-id,
      big-back 4 c.etb_topo_cnt r.etb-topo-cnt,
      big-back 4 c.op_trn_topo_cnt r.op-trn-topo-cnt,
      big-back 4 n h,
    )

pub crc32-below : (s : List ℕ) → crc32 s < 2 ^ 32
unfolding crc32
crc32-below s = omega arith

-- a part that begins where another list ends
pub part_at : (xs ys zs : List ℕ) (k n : ℕ) → length xs ≡ k → length ys ≡ n → part n k (xs ++ ys ++ zs) ≡ ys
part_at xs ys zs k n e f =
    ap (part n k) (append_assoc xs ys zs) ∙ ap (take n) (drop_at xs (ys ++ zs) k e) ∙ take_at ys zs n f

-- a part that another list's end holds
pub part_end : (xs ys : List ℕ) (k n : ℕ) → length xs ≡ k → length ys ≡ n → part n k (xs ++ ys) ≡ ys
part_end xs ys k n e f = ap (take n) (drop_at xs ys k e) ∙ take_all n ys (omega arith)

-- a part does not reach what is behind it
pub part_left : (n k : ℕ) (xs ys : List ℕ) → k + n ≤ length xs → part n k (xs ++ ys) ≡ part n k xs
part_left n k xs ys h =
    let m : length (drop k xs) ≡ length xs - k = length-drop k xs in
    ap (take n) (drop-append-le k xs ys (omega arith)) ∙ take-append-le n (drop k xs) ys (omega arith)

module _ (front s : List ℕ) (k : ℕ) (long : length front ≡ k) where
  abbrev check : List ℕ
  check = little_of 4 (crc32 front)

  abbrev zeros : List ℕ
  zeros = replicate (padded (length s) - length s) 0

  -- the header up to its check field is the front
  pub front-back : take k (telegram_of front s) ≡ front
  front-back =
      ap (take k) (append_assoc (front ++ check) s zeros ∙ append_assoc front check (s ++ zeros))
      ∙ take_at front (check ++ (s ++ zeros)) k long

  -- a part of the front
  pub part-front : (n j : ℕ) → j + n ≤ k → part n j (telegram_of front s) ≡ part n j front
  part-front n j h =
      ap (part n j) (append_assoc (front ++ check) s zeros ∙ append_assoc front check (s ++ zeros))
      ∙ part_left n j front (check ++ (s ++ zeros)) (omega arith)

  -- the check that is stored is the front's
  pub check-back : little (part 4 k (telegram_of front s)) ≡ crc32 front
  check-back =
      ap (λ (l : List ℕ). little (part 4 k l)) (append_assoc (front ++ check) s zeros)
      ∙ ap little (part_at front check (s ++ zeros) k 4 long (length-little 4 (crc32 front)))
      ∙ little-back 4 (crc32 front) (crc32-below front)

  -- the dataset follows the header
  pub dataset-back : part (length s) (k + 4) (telegram_of front s) ≡ s
  dataset-back =
      part_at (front ++ check) s zeros (k + 4) (length s)
      (length-append front check ∙ ap₂ ◌+◌ long (length-little 4 (crc32 front))) refl

-- a list of octets taken in parts, one behind the other
module _ (d : List ℕ) (o : Octets d) where
  octets-part : (n k : ℕ) → Octets (part n k d)
  octets-part n k = octets-take n (drop k d) (octets-drop k d o)

  -- numbers of n octets
  pub bigs : (n k : ℕ) {xs : List ℕ} {x : ℕ} → xs ≡ take k d → x ≡ big (part n k d) → k + n ≤ length d → xs ++ big_of n x ≡ take (k + n) d
  bigs n k {xs} {x} e f h =
      let l : length (part n k d) ≡ n = part_length n k d h in
      ap₂ (λ (a : List ℕ) (y : ℕ). a ++ big_of n y) e f
      ∙ ap (λ (m : ℕ). take k d ++ big_of m (big (part n k d))) (sym l)
      ∙ ap (λ (a : List ℕ). take k d ++ a) (big-again (part n k d) (octets-part n k))
      ∙ sym (take-add k n d)

  pub littles : (n k : ℕ) {xs : List ℕ} {x : ℕ} → xs ≡ take k d → x ≡ little (part n k d) → k + n ≤ length d → xs ++ little_of n x ≡ take (k + n) d
  littles n k {xs} {x} e f h =
      let l : length (part n k d) ≡ n = part_length n k d h in
      ap₂ (λ (a : List ℕ) (y : ℕ). a ++ little_of n y) e f
      ∙ ap (λ (m : ℕ). take k d ++ little_of m (little (part n k d))) (sym l)
      ∙ ap (λ (a : List ℕ). take k d ++ a) (little-again (part n k d) (octets-part n k))
      ∙ sym (take-add k n d)

  -- octets as they are
  pub parts : (n k : ℕ) {xs ys : List ℕ} → xs ≡ take k d → ys ≡ part n k d → xs ++ ys ≡ take (k + n) d
  parts n k e f = ap₂ ◌++◌ e f ∙ sym (take-add k n d)

  -- the first 24 octets written again
  pub common-again : {n : ℕ} → n ≡ (common_of d).dataset_length → 24 ≤ length d → common_octets (common_of d) n ≡ take 24 d
  common-again e h =
      let c4 = bigs 4 0 refl refl (omega arith) in
      let c6 = bigs 2 4 c4 refl (omega arith) in
      let c8 = bigs 2 6 c6 refl (omega arith) in
      let c12 = bigs 4 8 c8 refl (omega arith) in
      let c16 = bigs 4 12 c12 refl (omega arith) in
      let c20 = bigs 4 16 c16 refl (omega arith) in
      bigs 4 20 c20 e (omega arith)

  -- a telegram whose front and check stand in d, written again
  pub telegram-again : (k n : ℕ) {front : List ℕ} → front ≡ take k d → crc32 (take k d) ≡ little (part 4 k d) → k + 4 + n ≤ length d
      → telegram_of front (part n (k + 4) d) ≡ take (k + 4 + n) d ++ replicate (padded n - n) 0
  telegram-again k n {front} e c h =
      let l : length (part n (k + 4) d) ≡ n = part_length n (k + 4) d h in
      ap₂ (λ (a : List ℕ) (m : ℕ). a ++ replicate (padded m - m) 0)
      (parts n (k + 4) (littles 4 k e (ap crc32 e ∙ c) (omega arith)) refl) l
