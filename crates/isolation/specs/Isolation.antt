-- Demand 3 whole: one claim about every list of calls, of process data and of message data in any order.
use Rattle.std.specs.Prelude.{◌≡◌, ℕ, cond, List, [], ◌∷◌, replicate}
use Rattle.std.proofs.Math.Option.{Option, none, some}
use Rattle.tables.specs.Trace.{Outcome, trace, run}
use Rattle.tables.specs.Watch.{watched, told, watched_alone}
use Rattle.tables.specs.View.{View, viewed}
use Rattle.subscription_table.specs.Slot.{Request, slot_octets}
use Rattle.subscription_table.specs.Table as pd
use Rattle.subscription_table.specs.Alone as slots
use Rattle.subscription_table.specs.Watched as slot
use Rattle.session.specs.Session.{free_session}
use Rattle.session_table.specs.Table as md
use Rattle.isolation.specs.Alone as session
use Rattle.isolation.specs.Beside as sessions
use Rattle.session_table.specs.Table.{Tables}

-- a call of process data, or one of message data
pub data Call : Type 0 where
  process : pd.Call → Call
  message : md.Call → Call

pub data Answer : Type 0 where
  processed : pd.Answer → Answer
  messaged : md.Answer → Answer

-- the state of process data beside that of message data
pub record Both (S T : Type 0) : Type 0 where
  pub subscriptions : S
  pub messages : T

-- each call by its own rules; the other state stays
unfoldable pub both : {S T : Type 0} → (pd.Call → S → Outcome pd.Answer S) → (md.Call → T → Outcome md.Answer T) → Call
    → Both S T → Outcome Answer (Both S T)
both f g (process c) s =
    let o = f c s.subscriptions in
    record { answer = processed o.answer; after = record { subscriptions = o.after; messages = s.messages } }
both f g (message c) s =
    let o = g c s.messages in
    record { answer = messaged o.answer; after = record { subscriptions = s.subscriptions; messages = o.after } }

-- the subscription table with its store, and the listeners and sessions
abbrev pub Stack : Type 0
Stack = Both pd.Table Tables

abbrev pub step : Call → Stack → Outcome Answer Stack
step = both pd.step md.step

-- n slots and a store of so many octets, m listeners and i sessions, all free
abbrev pub empty : ℕ → ℕ → ℕ → ℕ → Stack
empty n octets m i = record { subscriptions = pd.empty_table n octets; messages = md.empty_tables m i }

abbrev pub process_call : Call → Option pd.Call
process_call (process c) = some c
process_call (message c) = none

abbrev pub process_answer : Answer → Option pd.Answer
process_answer (processed a) = some a
process_answer (messaged a) = none

abbrev pub message_call : Call → Option md.Call
message_call (process c) = none
message_call (message c) = some c

abbrev pub message_answer : Answer → Option md.Answer
message_answer (processed a) = none
message_answer (messaged a) = some a

-- the subscription table in the stack; calls of message data are struck out
abbrev pub of_process : View pd.Call pd.Answer pd.Table Call Answer Stack
of_process =
    record {
      part = λ s. s.subscriptions;
      whole = λ t. record { subscriptions = t; messages = md.empty_tables 0 0 };
      call = process;
      answer = processed;
      own_call = process_call;
      own_answer = process_answer;
    }

-- the listeners and sessions in the stack; calls of process data are struck out
abbrev pub of_messages : View md.Call md.Answer Tables Call Answer Stack
of_messages =
    record {
      part = λ s. s.messages;
      whole = λ t. record { subscriptions = pd.empty_table 0 0; messages = t };
      call = message;
      answer = messaged;
      own_call = message_call;
      own_answer = message_answer;
    }

-- from its grant through the call that frees it, a subscription's record, octets and answers are those of the slot
-- alone
abbrev pub SlotAlone : Stack → List Call → Type 0
SlotAlone s after =
    (q : Request) (time k : ℕ)
    → let w = viewed of_process step (slot.slot_watch k q.filter) in
    let grant = step (process (pd.subscribe q time)) s in
    let alone = (step (process (pd.subscribe q time)) (empty 1 slot_octets 0 0)).after in
    grant.answer ≡ processed (pd.granted k)
    → (slot.slot_at k grant.after.subscriptions ≡ alone.subscriptions)
    × (watched w after grant.after ≡ watched_alone w (told w after grant.after) alone)

-- from the call that opens it through the call that frees it, a session's record, its answers and its codes are those
-- of the session alone; an opening Mr meets the listeners as the calls before it leave them
abbrev pub SessionAlone : Stack → List Call → Type 0
SessionAlone s after =
    (c : md.Call) (k : ℕ)
    → let w = viewed of_messages step (session.session_watch k (session.identifier c)) in
    let o = md.step c s.messages in
    let alone = md.step c (record { listeners = s.messages.listeners; sessions = free_session ∷ [] }) in
    session.opened_at o.answer ≡ some k
    → (o.answer ≡ session.numbered k alone.answer)
    × (session.slot_at k o.after ≡ session.slot_at 0 alone.after)
    × (watched w after (step (message c) s).after
    ≡ watched_alone w (told w after (step (message c) s).after) (of_messages.whole (session.slot_at 0 alone.after)))

-- ---- the model made of slots and sessions alone

-- each state seen as its own table
abbrev pub seen_by : {S T : Type 0} → (S → pd.Table) → (T → Tables) → Both S T → Stack
seen_by f g s = record { subscriptions = f s.subscriptions; messages = g s.messages }

-- the answers and all tables after each call that slots and sessions alone give, side by side; where sizes are refused,
-- so is every call of process data
abbrev pub side_by_side : ℕ → ℕ → ℕ → ℕ → List Call → List (Outcome Answer Stack)
side_by_side n octets m i calls =
    cond (pd.fits n octets)
    (trace (both slots.beside sessions.beside) (seen_by slots.joined sessions.joined) calls
    (record { subscriptions = replicate n slots.free; messages = sessions.empty_slots m i }))
    (trace (both slots.refusing sessions.beside) (seen_by (λ t. t) sessions.joined) calls
    (record { subscriptions = pd.empty_table n octets; messages = sessions.empty_slots m i }))

-- Demand 3, over every number of slots, store octets, listeners and sessions, and every list of calls: each answer,
-- grant, opening, slot number, record and octet is that of slots and sessions alone; and whatever came before, from its
-- grant or its opening on each slot and each session is the slot or the session alone
pub record Isolation : Type 0 where
  pub side-by-side : (n octets m i : ℕ) (calls : List Call)
      → trace step (λ s. s) calls (empty n octets m i) ≡ side_by_side n octets m i calls
  pub slot-alone : (n octets m i : ℕ) (before after : List Call)
      → SlotAlone (run step before (empty n octets m i)) after
  pub session-alone : (n octets m i : ℕ) (before after : List Call)
      → SessionAlone (run step before (empty n octets m i)) after
