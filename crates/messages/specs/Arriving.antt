-- An arriving MD telegram, rule by rule, as the code hands it on; and the outcome that its answer counts as.
use Rattle.std.specs.Prelude.{ℕ, ◌≡◌, List, Ok, Err, Result}
use Rattle.refusal.specs.Refusal.{number}
use Rattle.tables.specs.Trace.{Outcome}
use Rattle.session.specs.declared.Session.{Session}
use Rattle.session_table.specs.Table.{Call, Answer, listening, freed, opened, notified, requested, taken, replied, confirmed, codes, refused, Heard}
use Rattle.session_table.specs.declared.MdRefusal.{MdRefusal}
use Rattle.packed.specs.Packed.{tables_of}
use Rattle.packed_slots.specs.Calls.{left_by}
use Rattle.messages.specs.declared.Message.{Message}

-- a telegram that passed its checks
abbrev pub heard_by : Message → Heard
heard_by m =
    record {
      type = m.msg_type;
      com_id = m.com_id;
      sender = m.sender;
      time = m.time;
      id = m.id;
      destination = m.destination.now;
      status = m.status;
      timeout = m.timeout;
    }

-- what a rule answers, and the sessions that it leaves, over lent octets; the listeners stay
pub record Gives (octets : List ℕ) (o : Outcome Answer (List Session)) (a : Answer) (octets' : List ℕ) : Type 0 where
  pub answers : a ≡ o.answer
  pub means : tables_of octets' ≡ record { listeners = (tables_of octets).listeners; sessions = o.after }
  pub leaves : (c : Call)
      → octets' ≡ left_by c o.answer (record { listeners = (tables_of octets).listeners; sessions = o.after }) octets

-- the outcome that statistics count: the refusal's number, 0 for whatever was granted
abbrev pub outcome_of : Answer → ℕ
outcome_of (listening k) = 0
outcome_of freed = 0
outcome_of (opened k) = 0
outcome_of (notified l) = 0
outcome_of (requested l k) = 0
outcome_of (taken status k) = 0
outcome_of replied = 0
outcome_of confirmed = 0
outcome_of (codes cs) = 0
outcome_of (refused r status) = number r

-- .. of what the code answers, whatever is granted
abbrev pub outcome_in : {T : Type 0} → Result T MdRefusal → ℕ
outcome_in (Ok x) = 0
outcome_in (Err e) = number e.refusal
