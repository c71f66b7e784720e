-- What PD and MD telegrams have in common: the first 24 octets, the checks 2 to 6, the writer's refusals, check field and padding.
use Rattle.std.specs.Prelude.{ℕ, ◌+◌, ◌*◌, ◌-◌, ◌/◌, ◌≡◌, List, [], ◌∷◌, ◌++◌, Bool, false, not, ◌||◌, eqb, ltb, length, take, replicate, Result}
use Rattle.refusal.specs.Refusal.{Check, ◌when◌, answer, after}
use Rattle.refusal.specs.declared.Refusal.{Refusal}
use Rattle.refusal.specs.declared.Refusal.TheVariants as refusal
use Rattle.octets.specs.Octets.{little, big, little_of, big_of, part, put}
use Rattle.fcs.specs.Fcs.{crc32}
use Rattle.telegram.specs.declared.Common.{Common}
use Rattle.telegram.specs.declared.Family.{Family}
use Rattle.telegram.specs.declared.Family.TheVariants.{Pd, Md}

-- PD header, 40 octets; MD header, 116 octets
abbrev pub header_size : Family → ℕ
header_size Pd = 40
header_size Md = 116

-- datasetLength 0..1432; 0..65388
abbrev pub dataset_limit : Family → ℕ
dataset_limit Pd = 1432
dataset_limit Md = 65388

-- Pd, Pp; Mn, Mr, Mp, Mq, Mc, Me
abbrev pub types : Family → List ℕ
types Pd = 0x5064 ∷ 0x5070 ∷ []
types Md = 0x4D6E ∷ 0x4D72 ∷ 0x4D70 ∷ 0x4D71 ∷ 0x4D63 ∷ 0x4D65 ∷ []

abbrev pub member : ℕ → List ℕ → Bool
member k [] = false
member k (x ∷ xs) = eqb k x || member k xs

-- a length made a multiple of 4
abbrev pub padded : ℕ → ℕ
padded n = (n + 3) / 4 * 4

-- the first 24 octets
abbrev pub common_of : List ℕ → Common
common_of d =
    record {
      sequence_counter = big (part 4 0 d);
      protocol_version = big (part 2 4 d);
      msg_type = big (part 2 6 d);
      com_id = big (part 4 8 d);
      etb_topo_cnt = big (part 4 12 d);
      op_trn_topo_cnt = big (part 4 16 d);
      dataset_length = big (part 4 20 d);
    }

-- the frame check differs from the one stored, least significant octet first, in the last four octets of a header
abbrev pub differs : ℕ → List ℕ → Bool
differs size d = not (eqb (crc32 (take (size - 4) d)) (little (part 4 (size - 4) d)))

-- 4 and 5
abbrev pub kind_checks : Family → Common → List Check
kind_checks f c =
    refusal.Version when not (eqb (c.protocol_version / 256) 1) ∷ refusal.MsgType when not (member c.msg_type (types f)) ∷ []

-- 4, 5, and 6 as far as the header tells
abbrev pub field_checks : Family → Common → List Check
field_checks f c =
    refusal.Version when not (eqb (c.protocol_version / 256) 1)
    ∷ refusal.MsgType when not (member c.msg_type (types f))
    ∷ refusal.Length when ltb (dataset_limit f) c.dataset_length
    ∷ []

-- 2 to 5, and 6 as far as the header tells
abbrev pub header_checks : Family → List ℕ → List Check
header_checks f d =
    refusal.Short when ltb (length d) (header_size f) ∷ refusal.FrameCheck when differs (header_size f) d ∷ field_checks f (common_of d)

-- 6: a datagram is exactly as long as header plus padded dataset
abbrev pub length_check : Family → List ℕ → Check
length_check f d = refusal.Length when not (eqb (length d) (header_size f + padded (common_of d).dataset_length))

-- 2 to 6, in that order
abbrev pub checks : Family → List ℕ → List Check
checks f d = header_checks f d ++ (length_check f d ∷ [])

-- the dataset of a datagram follows its header
abbrev pub dataset_of : Family → List ℕ → List ℕ
dataset_of f d = part (common_of d).dataset_length (header_size f) d

-- writing any telegram: 4, 5, 16, 20, 15
abbrev pub write_checks : Family → Common → ℕ → Bool → ℕ → List Check
write_checks f c n sound_uris room =
    refusal.Version when not (eqb (c.protocol_version / 256) 1)
    ∷ refusal.MsgType when not (member c.msg_type (types f))
    ∷ refusal.DatasetLong when ltb (dataset_limit f) n
    ∷ refusal.Uri when not sound_uris
    ∷ refusal.TargetShort when ltb room (header_size f + padded n)
    ∷ []

-- the first 24 octets as they are written before a dataset of n octets
abbrev pub common_octets : Common → ℕ → List ℕ
common_octets c n =
    big_of 4 c.sequence_counter
    ++ big_of 2 c.protocol_version
    ++ big_of 2 c.msg_type
    ++ big_of 4 c.com_id
    ++ big_of 4 c.etb_topo_cnt
    ++ big_of 4 c.op_trn_topo_cnt
    ++ big_of 4 n

-- a header up to its check field, the check, least significant octet first, and the dataset, padded with zeros
abbrev pub telegram_of : List ℕ → List ℕ → List ℕ
telegram_of front dataset =
    front ++ little_of 4 (crc32 front) ++ dataset ++ replicate (padded (length dataset) - length dataset) 0

-- a telegram was written to a target, its octets are the answer, or it was refused; octets behind what is written stay
pub record Wrote (judged : Result (Unit {0}) Refusal) (telegram before : List ℕ) (written : Result ℕ Refusal) (target : List ℕ) : Type 0 where
  pub answers : written ≡ answer judged (length telegram)
  pub leaves : target ≡ after judged (put 0 telegram before) before
