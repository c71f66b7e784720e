-- Demand 3 for sessions: the model made of sessions alone, side by side, and the statement over every list of calls.
use Rattle.std.specs.Prelude.{◌≡◌, ℕ, Bool, true, false, cond, List, [], ◌∷◌, map, ℤ, pos, get_or, replicate}
use Rattle.std.proofs.Math.Option.{Option, none, some}
use Rattle.refusal.specs.declared.Refusal.TheVariants.{NoFreeSession, SessionInUse, NoSession}
use Rattle.arrival.specs.declared.Arrival.{Arrival}
use Rattle.md.specs.Uri.{equal}
use Rattle.tables.specs.Trace.{Outcome, trace}
use Rattle.tables.specs.Lists.{any, lowest, grant, at_slot}
use Rattle.session.specs.declared.Listener.{Listener}
use Rattle.session.specs.declared.Session.{Session}
use Rattle.session.specs.declared.SessionState.{SessionState}
use Rattle.session.specs.declared.SessionState.TheVariants.{WaitingForReply, WithUser}
use Rattle.session_table.specs.Table.{Tables}
use Rattle.session.specs.Listener.{free_listener}
use Rattle.session.specs.Session.{free_session}
use Rattle.session.specs.declared.Kind.TheVariants.{Mn, Mr, Mp, Mq, Mc, Me}
use Rattle.session_table.specs.Table.{Call, listen, unlisten, calling, telegram, reply, confirm, time_check, Answer}
use Rattle.session_table.specs.Table.{listening, freed, opened, notified, requested, taken, replied, confirmed, codes}
use Rattle.session_table.specs.Table.{refused, refused_plain, Heard, Judged, refusal, passed, judged, Kind, kind_of}
use Rattle.session_table.specs.Table.{notifying, no_listener, all_in_use, hearing, step, empty_tables}
use Rattle.isolation.specs.Alone.{unused, numbered}

-- what a session alone is fed after its opening: a call, but for the slot's number
pub data Fed : Type 0 where
  arrived : Arrival → List ℕ → Fed
  -- the user's reply: its type, the timeout and the time
  replying : ℕ → ℕ → ℕ → Fed
  confirming : Fed
  checked : ℕ → Fed

-- .. as a call to a table with no other session
abbrev pub own : Fed → Call
own (arrived a d) = telegram a d
own (replying type timeout time) = reply 0 type timeout time
own confirming = confirm 0
own (checked time) = time_check time

-- free; or its opening, the identifier and the state, and what it was fed since, the latest first
pub data Slot : Type 0 where
  free : Slot
  held : List ℕ → SessionState → List Fed → Slot

-- a table of one session; no listener is there
abbrev pub single : Session → Tables
single x = record { listeners = []; sessions = x ∷ [] }

-- the session alone: one record, which steps by the rules of the table as a table's only session
unfoldable pub alone : List ℕ → SessionState → List Fed → Tables
alone id state [] = single (record { id = id; state = state })
alone id state (f ∷ fs) = (step (own f) (alone id state fs)).after

abbrev pub only : Slot → Tables
only free = single free_session
only (held id state fs) = alone id state fs

-- what the session alone answers
abbrev pub said : Fed → Slot → Answer
said f s = (step (own f) (only s)).answer

-- the slot is free again once the session alone has ended
abbrev pub feed : Fed → Slot → Slot
feed f free = free
feed f (held id state fs) = cond (unused (alone id state (f ∷ fs))) free (held id state (f ∷ fs))

-- ---- sessions alone, side by side; the listeners stand beside them and meet no session

pub record Slots : Type 0 where
  pub listeners : List Listener
  pub slots : List Slot

abbrev pub session_of : Slot → Session
session_of s = get_or (only s).sessions 0 free_session

abbrev pub joined : Slots → Tables
joined s = record { listeners = s.listeners; sessions = map session_of s.slots }

abbrev pub vacant : Slot → Bool
vacant free = true
vacant (held id state fs) = false

-- opened with that identifier, and not ended
abbrev pub is_of : List ℕ → Slot → Bool
is_of id free = false
is_of id (held i state fs) = equal i id

-- 17: the identifier was opened and has not ended; 18: no slot is free; else the lowest free slot
abbrev pub opening_beside : (ℕ → Answer) → Answer → List ℕ → SessionState → List Slot → Outcome Answer (List Slot)
opening_beside given full id state ss =
    grant (cond (any (is_of id) ss) (some (refused_plain SessionInUse)) none) (lowest vacant ss) full given
    (held id state []) ss

-- a reply or a confirm goes to the session of its identifier and to no other; 19 where there is none
abbrev pub taking_beside : Option ℕ → Fed → List Slot → Outcome Answer (List Slot)
taking_beside none f ss = record { answer = refused_plain NoSession; after = ss }
taking_beside (some k) f ss = at_slot free (λ s. record { answer = numbered k (said f s); after = feed f s }) k ss

-- an Mr meets the listeners as the calls before it leave them
abbrev pub requesting_beside : Option ℕ → Heard → List Slot → Outcome Answer (List Slot)
requesting_beside none h ss = record { answer = no_listener; after = ss }
requesting_beside (some l) h ss =
    opening_beside (requested l) all_in_use h.id (WithUser (record { start = h.time; timeout = h.timeout })) ss

abbrev pub heard_beside : Kind → Option ℕ → Heard → Fed → List Slot → Outcome Answer (List Slot)
heard_beside Mn l h f ss = record { answer = (notifying l []).answer; after = ss }
heard_beside Mr l h f ss = requesting_beside l h ss
heard_beside Mp l h f ss = taking_beside (lowest (is_of h.id) ss) f ss
heard_beside Mq l h f ss = taking_beside (lowest (is_of h.id) ss) f ss
heard_beside Mc l h f ss = taking_beside (lowest (is_of h.id) ss) f ss
heard_beside Me l h f ss = taking_beside (lowest (is_of h.id) ss) f ss

abbrev pub with_slots : List Listener → Outcome Answer (List Slot) → Outcome Answer Slots
with_slots ls o = record { answer = o.answer; after = record { listeners = ls; slots = o.after } }

abbrev pub arriving_beside : Arrival → List ℕ → Judged → Slots → Outcome Answer Slots
arriving_beside a d (refusal r) s = record { answer = refused_plain r; after = s }
arriving_beside a d (passed h) s =
    with_slots s.listeners (heard_beside (kind_of h.type) (hearing h s.listeners) h (arrived a d) s.slots)

-- a call on the listeners, by the rules of a table that has no session
abbrev pub listeners_beside : Call → Slots → Outcome Answer Slots
listeners_beside c s =
    let o = step c (record { listeners = s.listeners; sessions = [] }) in
    record { answer = o.answer; after = record { listeners = o.after.listeners; slots = s.slots } }

-- a call that names slot k is answered by the session alone there
abbrev pub named_beside : Fed → ℕ → Slots → Outcome Answer Slots
named_beside f k s =
    with_slots s.listeners (at_slot free (λ x. record { answer = said f x; after = feed f x }) k s.slots)

-- the code that the session alone answers to a time check
abbrev pub code_in : Answer → ℤ
code_in (listening j) = pos 0
code_in freed = pos 0
code_in (opened j) = pos 0
code_in (notified l) = pos 0
code_in (requested l j) = pos 0
code_in (taken status j) = pos 0
code_in replied = pos 0
code_in confirmed = pos 0
code_in (codes cs) = get_or cs 0 (pos 0)
code_in (refused r status) = pos 0

-- openings and slot numbers by the rules over the identifiers opened and not ended; all else by the sessions alone
unfoldable pub beside : Call → Slots → Outcome Answer Slots
beside (listen com_id senders u) s = listeners_beside (listen com_id senders u) s
beside (unlisten k) s = listeners_beside (unlisten k) s
beside (calling id timeout time) s =
    with_slots s.listeners (opening_beside opened (refused_plain NoFreeSession) id
    (WaitingForReply (record { start = time; timeout = timeout })) s.slots)
beside (telegram a d) s = arriving_beside a d (judged a d) s
beside (reply k type timeout time) s = named_beside (replying type timeout time) k s
beside (confirm k) s = named_beside confirming k s
beside (time_check time) s =
    with_slots s.listeners
    (record {
      answer = codes (map (λ x. code_in (said (checked time) x)) s.slots);
      after = map (feed (checked time)) s.slots;
    })

-- m listeners and n sessions, all free
abbrev pub empty_slots : ℕ → ℕ → Slots
empty_slots m n = record { listeners = replicate m free_listener; slots = replicate n free }

-- the answers, and the listeners and sessions after each call, are those of sessions alone, side by side
abbrev pub SideBySide : Type 0
SideBySide = (m n : ℕ) (calls : List Call)
    → trace step (λ t. t) calls (empty_tables m n) ≡ trace beside joined calls (empty_slots m n)
