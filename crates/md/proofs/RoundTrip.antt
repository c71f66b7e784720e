-- What is written reads back equal; a datagram taken apart, written again, is the same but for padding; the length of what is written.
-- Assumes nothing.
-- the values that the fields of an MD header can hold
use mathlib.Core.Path.{◌≡◌, refl, sym, ap, ◌∙◌, subst}
use mathlib.Core.List.{List, ◌++◌}
use mathlib.Core.Bool.{true, ◌&&◌}
use Prim.Native.Nat.{ℕ, ◌+◌, ◌-◌, ◌^◌, ◌<◌, ◌≤◌}
use native.Mathlib.Omega.{arith}
use lib.ListN.{length, take, drop, replicate, length-append}
use mir.Syntax.{w32}
use mir.Val.{SFits}
use borrow.Author.Tests.{le-leb}
use Rattle.octets.specs.Octets.{Octets, big, big_of, part, signed, unsigned}
use Rattle.octets.proofs.Parts.{part_length}
use Rattle.octets.proofs.Numbers.{big-back, big-below, octets-take, octets-drop}
use Rattle.octets.proofs.Signed.{unsigned-fits, unsigned_signed, signed-unsigned}
use Rattle.refusal.specs.Refusal.{first_of, answer}
use Rattle.telegram.specs.declared.Family.TheVariants as family
use Rattle.telegram.specs.Telegram.{padded, common_of, common_octets, dataset_of}
use Rattle.telegram.proofs.Finished.{length-telegram}
use Rattle.telegram.proofs.Reading.{sound, whole}
use Rattle.telegram.proofs.Writing.{granted}
use Rattle.telegram.proofs.RoundTrip.{InRange, with_length, common-back, part-front, dataset-back, part_end, part_left, bigs, parts, common-again, telegram-again}
use Rattle.telegram.proofs.Passing.{granted-passes, sound-granted}
use Rattle.md.specs.declared.MdHeader.{MdHeader}
use Rattle.std.specs.Prelude.{Ok, Result}
use Rattle.refusal.specs.declared.Refusal.{Refusal}
use Rattle.md.specs.Uri as uri
use Rattle.md.specs.Md.{header_of, session_id_of, source_uri_of, destination_uri_of, take_md, front_of, frame_of, write_checks_md}
use Rattle.md.proofs.Fronts.{front_length}
use Rattle.md.proofs.Taken.{taken}

pub record MdInRange (h : MdHeader) : Type 0 where
  pub common : InRange h.common
  pub reply-status : SFits w32 h.reply_status
  pub reply-timeout : h.reply_timeout < 2 ^ 32

-- the header as it is read back: datasetLength is that of the dataset
abbrev pub read_back : MdHeader → ℕ → MdHeader
read_back h n = record { common = with_length h.common n; reply_status = h.reply_status; reply_timeout = h.reply_timeout }

-- the arrays beside a header
module _ (i source destination : List ℕ) (il : length i ≡ 16) (sl : length source ≡ 32) (dl : length destination ≡ 32) where
  -- the length of what is written: header, dataset and padding
  pub frame-length : (h : MdHeader) (s : List ℕ) → length (frame_of h i source destination s) ≡ 116 + padded (length s)
  frame-length h s =
      length-telegram (front_of h i source destination (length s)) s
      ∙ ap (λ (n : ℕ). n + 4 + padded (length s)) (front_length h i source destination (length s) il sl dl)

  common-frame : (h : MdHeader) → MdInRange h → (s : List ℕ) → length s < 2 ^ 32 → common_of (frame_of h i source destination s) ≡ with_length h.common (length s)
  common-frame h r s k = common-back h.common r.common (length s) k (drop 24 (frame_of h i source destination s))

  -- the octets before the identifier, and those before each field behind it
  abbrev before : MdHeader → ℕ → List ℕ
  before h n = common_octets h.common n ++ big_of 4 (unsigned h.reply_status)

  module _ (h : MdHeader) (n : ℕ) where
    abbrev timeout : List ℕ
    timeout = big_of 4 h.reply_timeout

    abbrev front : List ℕ
    front = front_of h i source destination n

    l44 : length (before h n ++ i) ≡ 44
    l44 = simp length-append (omega arith)

    l48 : length (before h n ++ i ++ timeout) ≡ 48
    l48 = simp length-append (omega arith)

    l80 : length (before h n ++ i ++ timeout ++ source) ≡ 80
    l80 = simp length-append (omega arith)

    -- a part that ends before the source URI
    up-to-48 : (m k : ℕ) → k + m ≤ 48 → part m k front ≡ part m k (before h n ++ i ++ timeout)
    up-to-48 m k b =
        part_left m k (before h n ++ i ++ timeout ++ source) destination (omega (arith, l80))
        ∙ part_left m k (before h n ++ i ++ timeout) source (omega (arith, l48))

    id-front : part 16 28 front ≡ i
    id-front = up-to-48 16 28 (omega arith) ∙ part_left 16 28 (before h n ++ i) timeout (omega (arith, l44)) ∙ part_end (before h n) i 28 16 refl il

    timeout-front : part 4 44 front ≡ timeout
    timeout-front = up-to-48 4 44 (omega arith) ∙ part_end (before h n ++ i) timeout 44 4 l44 refl

    source-front : part 32 48 front ≡ source
    source-front =
        part_left 32 48 (before h n ++ i ++ timeout ++ source) destination (omega (arith, l80)) ∙ part_end (before h n ++ i ++ timeout) source 48 32 l48 sl

    destination-front : part 32 80 front ≡ destination
    destination-front = part_end (before h n ++ i ++ timeout ++ source) destination 80 32 l80 dl

  -- a header, its dataset, and the frame that they make
  module _ (h : MdHeader) (r : MdInRange h) (s : List ℕ) (b : length s ≤ 65388) where
    abbrev frame : List ℕ
    frame = frame_of h i source destination s

    long : length (front_of h i source destination (length s)) ≡ 112
    long = front_length h i source destination (length s) il sl dl

    -- a part of the front is a part of the frame
    in_frame : (m k : ℕ) → k + m ≤ 112 → part m k frame ≡ part m k (front_of h i source destination (length s))
    in_frame m k = part-front (front_of h i source destination (length s)) s 112 long m k

    enough : (k : ℕ) → k ≤ 116 → k ≤ length frame
    enough k e = omega (arith, frame-length h s)

    status-back : signed (big (part 4 24 frame)) ≡ h.reply_status
    status-back =
        ap signed (big-back 4 (unsigned h.reply_status) (unsigned-fits h.reply_status r.reply-status))
        ∙ signed-unsigned h.reply_status r.reply-status

    timeout-back : big (part 4 44 frame) ≡ h.reply_timeout
    timeout-back = ap big (in_frame 4 44 (omega arith) ∙ timeout-front h (length s)) ∙ big-back 4 h.reply_timeout r.reply-timeout

    header-back : header_of frame ≡ read_back h (length s)
    header-back = rw (common-frame h r s (omega arith), status-back, timeout-back)

    -- taking apart what was written gives the fields back, for every header that the writer grants
    pub written-reads-back : (room : ℕ) → first_of (write_checks_md h source destination (length s) room) ≡ Ok tt → take_md frame ≡ Ok (read_back h (length s))
    written-reads-back room e =
        let g = granted family.Md h.common (length s) (uri.sound source && uri.sound destination) room e in
        ap (λ (v : Result (Unit {0}) Refusal). answer v (header_of frame))
        (granted-passes family.Md h.common (front_of h i source destination (length s)) s (uri.sound source && uri.sound destination) room long (common-frame h r s (omega arith)) g)
        ∙ ap Ok header-back

    -- and the session identifier
    pub written-id-back : session_id_of frame ≡ i
    written-id-back = rw (le-leb 44 (length frame) (enough 44 (omega arith))) (in_frame 16 28 (omega arith) ∙ id-front h (length s))

    -- and the URI fields
    pub written-source-back : source_uri_of frame ≡ source
    written-source-back = rw (le-leb 80 (length frame) (enough 80 (omega arith))) (in_frame 32 48 (omega arith) ∙ source-front h (length s))

    pub written-destination-back : destination_uri_of frame ≡ destination
    written-destination-back = rw (le-leb 112 (length frame) (enough 112 (omega arith))) (in_frame 32 80 (omega arith) ∙ destination-front h (length s))

    -- and the dataset
    pub written-dataset-back : dataset_of family.Md frame ≡ s
    written-dataset-back =
        ap (λ (m : ℕ). part m 116 frame) (ap (λ (c : MdHeader). c.common.dataset_length) header-back)
        ∙ dataset-back (front_of h i source destination (length s)) s 112 long

word_below : (d : List ℕ) → Octets d → (k : ℕ) → k + 4 ≤ length d → big (part 4 k d) < 2 ^ 32
word_below d o k h =
    subst (λ (n : ℕ). big (part 4 k d) < 256 ^ n) (part_length 4 k d h) (big-below (part 4 k d) (octets-take 4 (drop k d) (octets-drop k d o)))

-- a datagram that was taken apart
module _ (d : List ℕ) (h : MdHeader) (e : take_md d ≡ Ok h) where
  length-is : length d ≡ 116 + padded (common_of d).dataset_length
  length-is = (whole family.Md d (taken d h e).0).1

  dataset-length : length (dataset_of family.Md d) ≡ (common_of d).dataset_length
  dataset-length = part_length (common_of d).dataset_length 116 d (omega (arith, length-is))

  -- written again it is the same but for padding
  pub taken-writes-back : Octets d
      → frame_of h (session_id_of d) (source_uri_of d) (destination_uri_of d) (dataset_of family.Md d)
      ≡ take (116 + h.common.dataset_length) d ++ replicate (padded h.common.dataset_length - h.common.dataset_length) 0
  taken-writes-back o =
      let m : ℕ = (common_of d).dataset_length in
      let s = sound family.Md d (whole family.Md d (taken d h e).0).0 in
      let id : session_id_of d ≡ part 16 28 d = rw (le-leb 44 (length d) (omega (arith, length-is))) in
      let source : source_uri_of d ≡ part 32 48 d = rw (le-leb 80 (length d) (omega (arith, length-is))) in
      let destination : destination_uri_of d ≡ part 32 80 d = rw (le-leb 112 (length d) (omega (arith, length-is))) in
      let status : unsigned (signed (big (part 4 24 d))) ≡ big (part 4 24 d) = unsigned_signed (big (part 4 24 d)) (word_below d o 24 (omega (arith, length-is))) in
      let front : front_of (header_of d) (session_id_of d) (source_uri_of d) (destination_uri_of d) (length (dataset_of family.Md d)) ≡ take 112 d =
      let f28 = bigs d o 4 24 (common-again d o dataset-length (omega (arith, length-is))) status (omega (arith, length-is)) in
      let f44 = parts d o 16 28 f28 id in
      let f48 = bigs d o 4 44 f44 refl (omega (arith, length-is)) in
      let f80 = parts d o 32 48 f48 source in
      parts d o 32 80 f80 destination in
      ap (λ (x : MdHeader). frame_of x (session_id_of d) (source_uri_of d) (destination_uri_of d) (dataset_of family.Md d)) (sym (taken d h e).1)
      ∙ telegram-again d o 112 m front s.check (omega (arith, length-is))
      ∙ ap (λ (x : MdHeader). take (116 + x.common.dataset_length) d ++ replicate (padded x.common.dataset_length - x.common.dataset_length) 0) (taken d h e).1

  -- the writer grants it where its URI fields are sound and there is room
  pub taken-is-granted : (room : ℕ) → (uri.sound (source_uri_of d) && uri.sound (destination_uri_of d)) ≡ true → length d ≤ room
      → first_of (write_checks_md h (source_uri_of d) (destination_uri_of d) (length (dataset_of family.Md d)) room) ≡ Ok tt
  taken-is-granted room u k =
      let s = sound family.Md d (whole family.Md d (taken d h e).0).0 in
      ap (λ (x : MdHeader). first_of (write_checks_md x (source_uri_of d) (destination_uri_of d) (length (dataset_of family.Md d)) room)) (sym (taken d h e).1)
      ∙ ap (λ (m : ℕ). first_of (write_checks_md (header_of d) (source_uri_of d) (destination_uri_of d) m room)) dataset-length
      ∙ sound-granted family.Md d (common_of d).dataset_length (uri.sound (source_uri_of d) && uri.sound (destination_uri_of d)) room s refl u (omega (arith, length-is))
