-- What the calls over telegrams answer, in words.
use Rattle.std.specs.Prelude.{ℕ, List, ◌++◌, Ok, Err, Result}
use Rattle.octets.specs.Octets.{unsigned}
use Rattle.telegram.specs.declared.Common.{Common}
use Rattle.refusal.specs.declared.Refusal.{Refusal}
use Rattle.refusal.specs.Refusal as refusal
use Rattle.pd.specs.declared.PdHeader.{PdHeader}
use Rattle.md.specs.declared.MdHeader.{MdHeader}
use Rattle.md.specs.Md as md
use Rattle.line.specs.Line.{target_words}
use Rattle.answer.specs.Answer.{word, number, octets, refused}

-- SEQ VERSION TYPE COMID ETB OPTRN LENGTH(8)
unfoldable pub common_words : Common → List (List ℕ)
common_words c =
    number 8 c.sequence_counter
    ++ number 4 c.protocol_version
    ++ number 4 c.msg_type
    ++ number 8 c.com_id
    ++ number 8 c.etb_topo_cnt
    ++ number 8 c.op_trn_topo_cnt
    ++ number 8 c.dataset_length

-- `header`, the same, RESERVED REPLYCOMID REPLYIP
unfoldable pub pd_words : PdHeader → List (List ℕ)
pd_words h =
    word "header"
    ++ common_words h.common
    ++ number 8 h.reserved
    ++ number 8 h.reply_com_id
    ++ number 8 h.reply_ip_address

-- STATUS ID TIMEOUT SRCURI DSTURI; identifier and URIs stand in the datagram
unfoldable pub session_words : MdHeader → List ℕ → List (List ℕ)
session_words h d =
    number 8 (unsigned h.reply_status)
    ++ octets (md.session_id_of d)
    ++ number 8 h.reply_timeout
    ++ octets (md.source_uri_of d)
    ++ octets (md.destination_uri_of d)

-- `header` and all of an MD header
unfoldable pub md_words : MdHeader → List ℕ → List (List ℕ)
md_words h d = word "header" ++ common_words h.common ++ session_words h d

-- a writer's answer beside its target: a word, LENGTH and the whole TARGET; or the refusal
abbrev pub written_words : List ℕ → Result ℕ Refusal → List ℕ → List (List ℕ)
written_words done (Ok n) target = target_words done n target
written_words done (Err r) target = refused (refusal.number r)
