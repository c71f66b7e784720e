-- The answers of the calls on telegrams, publications and datasets, as structs of numbers: refusal 0 means granted; a
-- refusal has its number and no other content.
use Rattle.std.specs.Prelude.{ℕ, List, pos, replicate, Ok, Err, Result}
use Rattle.refusal.specs.Refusal.{number}
use Rattle.refusal.specs.declared.Refusal.{Refusal}
use Rattle.octets.specs.Octets.{part}
use Rattle.telegram.specs.declared.Common.{Common}
use Rattle.pd.specs.declared.PdHeader.{PdHeader}
use Rattle.md.specs.Md.{session_id_of}
use Rattle.md.specs.declared.MdHeader.{MdHeader}
use Rattle.publication.specs.declared.Publication.{Publication}
use Rattle.boundary.specs.declared.Outcome.{Outcome}
use Rattle.boundary.specs.declared.PdDatagram.{PdDatagram}
use Rattle.boundary.specs.declared.MdDatagram.{MdDatagram}
use Rattle.boundary.specs.declared.Sending.{Sending}

-- granted, with a slot, a count or a length
abbrev pub granted : ℕ → Outcome
granted v = record { refusal = 0; value = v }

-- refused with a number, which may be any
abbrev pub refused_with : ℕ → Outcome
refused_with n = record { refusal = n; value = 0 }

-- refused, with its number
abbrev pub refused : Refusal → Outcome
refused r = refused_with (number r)

-- a slot, a count or a length that a call answers
abbrev pub of_result : Result ℕ Refusal → Outcome
of_result (Ok n) = granted n
of_result (Err r) = refused r

-- 0 where it has nothing to say
abbrev pub of_done : Result (Unit {0}) Refusal → Outcome
of_done (Ok v) = granted 0
of_done (Err r) = refused r

-- ---- telegrams taken apart

abbrev pub no_common : Common
no_common =
    record {
      sequence_counter = 0;
      protocol_version = 0;
      msg_type = 0;
      com_id = 0;
      etb_topo_cnt = 0;
      op_trn_topo_cnt = 0;
      dataset_length = 0;
    }

abbrev pub no_pd_header : PdHeader
no_pd_header = record { common = no_common; reserved = 0; reply_com_id = 0; reply_ip_address = 0 }

abbrev pub no_pd_datagram : ℕ → PdDatagram
no_pd_datagram n = record { refusal = n; header = no_pd_header }

abbrev pub of_pd_taken : Result PdHeader Refusal → PdDatagram
of_pd_taken (Ok h) = record { refusal = 0; header = h }
of_pd_taken (Err r) = no_pd_datagram (number r)

abbrev pub no_md_header : MdHeader
no_md_header = record { common = no_common; reply_status = pos 0; reply_timeout = 0 }

abbrev pub no_md_datagram : ℕ → MdDatagram
no_md_datagram n =
    record {
      refusal = n;
      header = no_md_header;
      session_id = replicate 16 0;
      source_uri = replicate 32 0;
      destination_uri = replicate 32 0;
    }

-- of datagram d: sessionId 16 at 28, source URI 32 at 48, destination URI 32 at 80
abbrev pub of_md_taken : List ℕ → Result MdHeader Refusal → MdDatagram
of_md_taken d (Ok h) =
    record {
      refusal = 0;
      header = h;
      session_id = session_id_of d;
      source_uri = part 32 48 d;
      destination_uri = part 32 80 d;
    }
of_md_taken d (Err r) = no_md_datagram (number r)

-- ---- telegrams written

-- an answer, and the publication after it
abbrev pub sending : Outcome → Publication → Sending
sending o p = record { refusal = o.refusal; length = o.value; publication = p }

-- a sending's answer
abbrev pub of_sent : Result ℕ Refusal → Publication → Sending
of_sent r p = sending (of_result r) p
