-- A push publication: when it is due, and what a sending leaves.
use Rattle.std.specs.Prelude.{◌≡◌, ℕ, ◌+◌, ◌%◌, ◌^◌, Bool, not, ◌||◌, List, ◌∷◌, ◌==◌, Result}
use Rattle.refusal.specs.Refusal.{Check, ◌when◌, after}
use Rattle.refusal.specs.declared.Refusal.{Refusal}
use Rattle.refusal.specs.declared.Refusal.TheVariants as refusal
use Rattle.timing.specs.Timing.{passed}
use Rattle.telegram.specs.Telegram.{Wrote}
use Rattle.pd.specs.declared.PdHeader.{PdHeader}
use Rattle.pd.specs.Pd.{write_checks_pd, frame_of}
use Rattle.publication.specs.declared.Publication.{Publication}

-- a header with another sequence counter
abbrev pub counted : PdHeader → ℕ → PdHeader
counted h n =
    record {
      common =
          record {
            sequence_counter = n;
            protocol_version = h.common.protocol_version;
            msg_type = h.common.msg_type;
            com_id = h.common.com_id;
            etb_topo_cnt = h.common.etb_topo_cnt;
            op_trn_topo_cnt = h.common.op_trn_topo_cnt;
            dataset_length = h.common.dataset_length;
          };
      reserved = h.reserved;
      reply_com_id = h.reply_com_id;
      reply_ip_address = h.reply_ip_address;
    }

-- next counter first 0, nothing sent
abbrev pub made_of : PdHeader → ℕ → Publication
made_of h cycle = record { header = counted h 0; cycle = cycle; sent = 0; last_sent = 0 }

-- the first is due at once, later ones when now is not before the last and at least a cycle after
abbrev pub due : Publication → ℕ → Bool
due p time = p.sent == 0 || passed p.last_sent p.cycle time

-- 14, then the writer's
abbrev pub send_checks : Publication → ℕ → ℕ → ℕ → List Check
send_checks p time n room = refusal.NotDue when not (due p time) ∷ write_checks_pd p.header n room

-- after FFFFFFFF comes 0
abbrev pub next_counter : ℕ → ℕ
next_counter n = (n + 1) % 2 ^ 32

-- the record after a sending
abbrev pub sent_at : Publication → ℕ → Publication
sent_at p time =
    record {
      header = counted p.header (next_counter p.header.common.sequence_counter);
      cycle = p.cycle;
      sent = 1;
      last_sent = time;
    }

-- what a sending answers and leaves, judged by its checks
pub record Sends (judged : Result (Unit {0}) Refusal) (p : Publication) (time : ℕ) (dataset before : List ℕ)
    (answer : Result ℕ Refusal) (publication : Publication) (target : List ℕ) : Type 0 where
  pub writes : Wrote judged (frame_of p.header dataset) before answer target
  pub leaves : publication ≡ after judged (sent_at p time) p
