-- The MD header of 116 octets: taken apart, and written.
use Rattle.std.specs.Prelude.{ℕ, List, [], ◌++◌, cond, ◌&&◌, leb, length, replicate, Result}
use Rattle.refusal.specs.Refusal.{Check, first_of, answer}
use Rattle.octets.specs.Octets.{big, big_of, part, signed, unsigned}
use Rattle.telegram.specs.Telegram.{common_of, header_checks, checks, write_checks, common_octets, telegram_of}
use Rattle.telegram.specs.declared.Family.TheVariants as family
use Rattle.md.specs.Uri.{sound}
use Rattle.md.specs.declared.MdHeader.{MdHeader}
use Rattle.refusal.specs.declared.Refusal.{Refusal}

-- replyStatus 4 (signed) at 24, replyTimeout 4 at 44
abbrev pub header_of : List ℕ → MdHeader
header_of d =
    record { common = common_of d; reply_status = signed (big (part 4 24 d)); reply_timeout = big (part 4 44 d) }

-- sessionId 16 at 28; zeros where the datagram has no such field
abbrev pub session_id_of : List ℕ → List ℕ
session_id_of d = cond (leb 44 (length d)) (part 16 28 d) (replicate 16 0)

-- source URI 32 at 48; nothing where the datagram has no such field
abbrev pub source_uri_of : List ℕ → List ℕ
source_uri_of d = cond (leb 80 (length d)) (part 32 48 d) []

-- destination URI 32 at 80
abbrev pub destination_uri_of : List ℕ → List ℕ
destination_uri_of d = cond (leb 112 (length d)) (part 32 80 d) []

-- a header judged before its datagram is whole
abbrev pub take_header : List ℕ → Result MdHeader Refusal
take_header d = answer (first_of (header_checks family.Md d)) (header_of d)

-- a datagram taken apart: checks 2 to 6
abbrev pub take_md : List ℕ → Result MdHeader Refusal
take_md d = answer (first_of (checks family.Md d)) (header_of d)

-- the first 112 octets of a header with its identifier and URI fields, before a dataset of n octets
abbrev pub front_of : MdHeader → List ℕ → List ℕ → List ℕ → ℕ → List ℕ
front_of h session_id source destination n =
    common_octets h.common n
    ++ big_of 4 (unsigned h.reply_status)
    ++ session_id
    ++ big_of 4 h.reply_timeout
    ++ source
    ++ destination

-- a header and its dataset, as they are written
abbrev pub frame_of : MdHeader → List ℕ → List ℕ → List ℕ → List ℕ → List ℕ
frame_of h session_id source destination dataset =
    telegram_of (front_of h session_id source destination (length dataset)) dataset

-- 4, 5, 16, 20, 15
abbrev pub write_checks_md : MdHeader → List ℕ → List ℕ → ℕ → ℕ → List Check
write_checks_md h source destination n room =
    write_checks family.Md h.common n (sound source && sound destination) room
