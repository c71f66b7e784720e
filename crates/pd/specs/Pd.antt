-- The PD header of 40 octets: taken apart, and written.
use Rattle.std.specs.Prelude.{ℕ, List, ◌++◌, true, length, Result}
use Rattle.refusal.specs.Refusal.{Check, first_of, answer}
use Rattle.octets.specs.Octets.{big, big_of, part}
use Rattle.telegram.specs.Telegram.{common_of, header_checks, checks, write_checks, common_octets, telegram_of}
use Rattle.telegram.specs.declared.Family.TheVariants as family
use Rattle.pd.specs.declared.PdHeader.{PdHeader}
use Rattle.refusal.specs.declared.Refusal.{Refusal}

-- reserved 4 at 24, replyComId 4 at 28, replyIpAddress 4 at 32
abbrev pub header_of : List ℕ → PdHeader
header_of d =
    record {
      common = common_of d;
      reserved = big (part 4 24 d);
      reply_com_id = big (part 4 28 d);
      reply_ip_address = big (part 4 32 d);
    }

-- a header judged before its datagram is whole
abbrev pub take_header : List ℕ → Result PdHeader Refusal
take_header d = answer (first_of (header_checks family.Pd d)) (header_of d)

-- a datagram taken apart: checks 2 to 6
abbrev pub take_pd : List ℕ → Result PdHeader Refusal
take_pd d = answer (first_of (checks family.Pd d)) (header_of d)

-- the first 36 octets of a header, before a dataset of n octets
abbrev pub front_of : PdHeader → ℕ → List ℕ
front_of h n =
    common_octets h.common n ++ big_of 4 h.reserved ++ big_of 4 h.reply_com_id ++ big_of 4 h.reply_ip_address

-- a header and its dataset, as they are written
abbrev pub frame_of : PdHeader → List ℕ → List ℕ
frame_of h dataset = telegram_of (front_of h (length dataset)) dataset

-- 4, 5, 16, 15: a PD header has no URI fields
abbrev pub write_checks_pd : PdHeader → ℕ → ℕ → List Check
write_checks_pd h n room = write_checks family.Pd h.common n true room
