-- The calls that know no table: the frame check, and telegrams taken apart and written.
-- What each line says, and its answer.
use Rattle.std.specs.Prelude.{ℕ, List, ◌++◌, cond, length, drop, Ok, Err, Result, Option as Maybe, None, Some}
use Rattle.std.proofs.Math.Option.{Option, none, some}
use Rattle.refusal.specs.declared.Refusal.{Refusal}
use Rattle.refusal.specs.Refusal as refusal
use Rattle.refusal.specs.Refusal.{first_of}
use Rattle.octets.specs.Octets.{put, signed}
use Rattle.fcs.specs.Fcs.{crc32}
use Rattle.telegram.specs.declared.Common.{Common}
use Rattle.pd.specs.declared.PdHeader.{PdHeader}
use Rattle.pd.specs.Pd as pd
use Rattle.md.specs.declared.MdHeader.{MdHeader}
use Rattle.md.specs.Md as md
use Rattle.line.specs.Line.{verb_is, with_number, with_field, with_octets, eight}
use Rattle.line.specs.Line.{four, target_of, target_words}
use Rattle.answer.specs.Answer.{ascii, word, number, refused}
use Rattle.scenario_wire_words.specs.Words.{pd_words, md_words}

-- what was read, and what is left of the line behind it; nothing where the line is of another form
abbrev pub found : {H : Type 0} → Maybe H → List ℕ → Option (H × List ℕ)
found None left = none
found (Some h) left = some (h, left)

-- what a line says with header fields that were found, and what is left behind them
abbrev pub with_found : {H A : Type 0} → Option (H × List ℕ) → (H → List ℕ → Option A) → Option A
with_found none said = none
with_found (some f) said = said f.0 f.1

-- VERSION(4) TYPE(4) COMID(8) ETB(8) OPTRN(8) behind a sequence counter; a writer takes LENGTH from the dataset
unfoldable pub common_fields : List ℕ → ℕ → Option (Common × List ℕ)
common_fields s counter =
    with_number s 4
    (λ version left. with_number left 4
    (λ kind left. with_number left 8
    (λ com_id left. with_number left 8
    (λ etb left. with_number left 8
    (λ op_trn left. some (
      record {
        sequence_counter = counter;
        protocol_version = four version;
        msg_type = four kind;
        com_id = eight com_id;
        etb_topo_cnt = eight etb;
        op_trn_topo_cnt = eight op_trn;
        dataset_length = 0;
      },
      left,
    ))))))

-- the same, and RESERVED(8) REPLYCOMID(8) REPLYIP(8)
unfoldable pub pd_fields : List ℕ → ℕ → Option (PdHeader × List ℕ)
pd_fields s counter =
    with_found (common_fields s counter)
    (λ common left. with_number left 8
    (λ reserved left. with_number left 8
    (λ reply_com_id left. with_number left 8
    (λ reply_ip left. some (
      record {
        common = common;
        reserved = eight reserved;
        reply_com_id = eight reply_com_id;
        reply_ip_address = eight reply_ip;
      },
      left,
    )))))

-- a datagram taken apart, in words: its header, or the refusal
abbrev pub taken_words : {H : Type 0} → (H → List ℕ → List (List ℕ)) → Result H Refusal → List ℕ → List (List ℕ)
taken_words words (Ok h) d = words h d
taken_words words (Err r) d = refused (refusal.number r)

-- a writer's answer of a telegram that no check refuses,
-- written at the front of a target; or of the first check that does
abbrev pub wrote_words : {V : Type 0} → List ℕ → Result V Refusal → List ℕ → List ℕ → List (List ℕ)
wrote_words done (Ok v) telegram before = target_words done (length telegram) (put 0 telegram before)
wrote_words done (Err r) telegram before = refused (refusal.number r)

-- a dataset written into a target as a PD telegram
unfoldable pub pd_wrote_words : PdHeader → List ℕ → List ℕ → List (List ℕ)
pd_wrote_words h before d =
    wrote_words (ascii "wrote") (first_of (pd.write_checks_pd h (length d) (length before))) (pd.frame_of h d) before

-- as an MD telegram
unfoldable pub md_wrote_words : MdHeader → List ℕ → List ℕ → List ℕ → List ℕ → List ℕ → List (List ℕ)
md_wrote_words h id source destination before d =
    wrote_words
    (ascii "wrote")
    (first_of (md.write_checks_md h source destination (length d) (length before)))
    (md.frame_of h id source destination d)
    before

-- `crc VALUE(8)`, the number
unfoldable pub crc_words : List ℕ → List (List ℕ)
crc_words d = word "crc" ++ number 8 (crc32 d)

-- `crc OCTETS`
unfoldable pub crc_answer : List ℕ → Option (List (List ℕ))
crc_answer s = with_octets (drop 3 s) crc_words

-- the octets of a line taken apart, in words
unfoldable pub take_answer : {H : Type 0} → (H → List ℕ → List (List ℕ)) → (List ℕ → Result H Refusal) → List ℕ →
    Option (List (List ℕ))
take_answer words taken s = with_octets (drop 6 s) (λ d. taken_words words (taken d) d)

-- `pdtake OCTETS`
abbrev pub pdtake_answer : List ℕ → Option (List (List ℕ))
pdtake_answer s = take_answer (λ h d. pd_words h) pd.take_pd s

-- `mdtake OCTETS`
abbrev pub mdtake_answer : List ℕ → Option (List (List ℕ))
mdtake_answer s = take_answer md_words md.take_md s

-- `pdwrite SEQ(8) VERSION(4) TYPE(4) COMID(8) ETB(8) OPTRN(8) RESERVED(8) REPLYCOMID(8) REPLYIP(8) ROOM(4) OCTETS`
unfoldable pub pdwrite_answer : List ℕ → Option (List (List ℕ))
pdwrite_answer s =
    with_number (drop 7 s) 8
    (λ counter left. with_found (pd_fields left (eight counter))
    (λ header left. with_number left 4
    (λ room left. with_octets left (pd_wrote_words header (target_of (four room))))))

-- `mdwrite SEQ(8) VERSION(4) TYPE(4) COMID(8) ETB(8) OPTRN(8)
-- STATUS(8) ID(32) TIMEOUT(8) SRCURI(64) DSTURI(64) ROOM(4) OCTETS`
unfoldable pub mdwrite_answer : List ℕ → Option (List (List ℕ))
mdwrite_answer s =
    with_number (drop 7 s) 8
    (λ counter left. with_found (common_fields left (eight counter))
    (λ common left. with_number left 8
    (λ status left. with_field left 16
    (λ id left. with_number left 8
    (λ timeout left. with_field left 32
    (λ source left. with_field left 32
    (λ destination left. with_number left 4
    (λ room left. let h : MdHeader = record {
      common = common;
      reply_status = signed (eight status);
      reply_timeout = eight timeout;
    } in
    with_octets left (md_wrote_words h id source destination (target_of (four room)))))))))))

-- a line of these verbs
unfoldable pub wire_answer : List ℕ → Option (List (List ℕ))
wire_answer s =
    cond (verb_is s (ascii "crc")) (crc_answer s)
    (cond (verb_is s (ascii "pdtake")) (pdtake_answer s)
    (cond (verb_is s (ascii "mdtake")) (mdtake_answer s)
    (cond (verb_is s (ascii "pdwrite")) (pdwrite_answer s)
    (cond (verb_is s (ascii "mdwrite")) (mdwrite_answer s)
    none))))
