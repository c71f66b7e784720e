-- The listeners and sessions, and what each call answers and leaves. Document 01, Message sessions.
use Rattle.std.specs.Prelude.{ℕ, Bool, cond, not, ◌&&◌, List, [], ◌∷◌, ◌++◌, map, ℤ, pos, negsuc, Ok, Err, Result, get_or, set, replicate}
use Rattle.std.proofs.Math.Option.{Option, none, some}
use Rattle.refusal.specs.Refusal.{Check, ◌when◌, first_of}
use Rattle.refusal.specs.declared.Refusal.{Refusal}
use Rattle.refusal.specs.declared.Refusal.TheVariants as refusals
use Rattle.address.specs.SenderRange.{reversed}
use Rattle.address.specs.declared.SenderRange.{SenderRange}
use Rattle.arrival.specs.Arrival.{arrival_checks}
use Rattle.arrival.specs.declared.Arrival.{Arrival}
use Rattle.telegram.specs.Telegram.{common_of}
use Rattle.telegram.specs.declared.Family.TheVariants as family
use Rattle.md.specs.Uri.{sound}
use Rattle.md.specs.Md.{header_of, session_id_of, source_uri_of, destination_uri_of}
use Rattle.tables.specs.Trace.{Outcome}
use Rattle.tables.specs.Lists.{any, lowest, grant, at_slot}
use Rattle.session.specs.declared.Listener.{Listener}
use Rattle.session.specs.declared.Session.{Session}
use Rattle.session.specs.declared.SessionState.{SessionState}
use Rattle.session.specs.declared.SessionState.TheVariants.{WaitingForReply, OwingConfirm, WithUser}
use Rattle.session.specs.Listener.{free_listener, new_listener, hears, holds}
use Rattle.session.specs.Session.{free_session, is_free, waits_for_reply, owes_confirm, is_with_user, waits_for_confirm, has, code_of, expired}
pub use Rattle.session.specs.declared.Kind.{Kind}
pub use Rattle.session.specs.Session.{can_take, answered, is_reply, kind_of}
use Rattle.session.specs.declared.Kind.TheVariants.{Mn, Mr, Mp, Mq, Mc, Me}

pub record Tables : Type 0 where
  pub listeners : List Listener
  pub sessions : List Session

pub data Call : Type 0 where
  -- a listener's ComId, sender range and destination URI
  listen : ℕ → SenderRange → List ℕ → Call
  unlisten : ℕ → Call
  -- a request: its identifier, the timeout and the time
  calling : List ℕ → ℕ → ℕ → Call
  telegram : Arrival → List ℕ → Call
  -- the user's reply to the session of a slot: its type, the timeout and the time
  reply : ℕ → ℕ → ℕ → ℕ → Call
  confirm : ℕ → Call
  time_check : ℕ → Call

pub data Answer : Type 0 where
  listening : ℕ → Answer
  freed : Answer
  opened : ℕ → Answer
  -- a notification: the listener
  notified : ℕ → Answer
  -- a request: the listener, and the session's slot
  requested : ℕ → ℕ → Answer
  -- replyStatus and slot
  taken : ℤ → ℕ → Answer
  replied : Answer
  confirmed : Answer
  codes : List ℤ → Answer
  -- a refusal and the status that it carries
  refused : Refusal → ℤ → Answer

-- a refusal that carries no status
abbrev pub refused_plain : Refusal → Answer
refused_plain r = refused r (pos 0)

-- ---- a telegram, and what checks 2 to 7 and 20 make of it

-- 2 to 7, then 20
abbrev pub md_checks : Arrival → List ℕ → List Check
md_checks a d =
    arrival_checks family.Md a d ++
    (refusals.Uri when not (sound (source_uri_of d) && sound (destination_uri_of d)) ∷ [])

pub record Heard : Type 0 where
  pub type : ℕ
  pub com_id : ℕ
  pub sender : ℕ
  pub time : ℕ
  pub id : List ℕ
  pub destination : List ℕ
  pub status : ℤ
  pub timeout : ℕ

abbrev pub heard_of : Arrival → List ℕ → Heard
heard_of a d =
    record {
      type = (common_of d).msg_type;
      com_id = (common_of d).com_id;
      sender = a.sender;
      time = a.time;
      id = session_id_of d;
      destination = destination_uri_of d;
      status = (header_of d).reply_status;
      timeout = (header_of d).reply_timeout;
    }

pub data Judged : Type 0 where
  refusal : Refusal → Judged
  passed : Heard → Judged

abbrev pub judged_by : Result (Unit {0}) Refusal → Heard → Judged
judged_by (Ok v) h = passed h
judged_by (Err r) h = refusal r

unfoldable pub judged : Arrival → List ℕ → Judged
judged a d = judged_by (first_of (md_checks a d)) (heard_of a d)

-- ---- the calls, over sessions

-- 17, 18, else the lowest free session
abbrev pub opening : (ℕ → Answer) → Answer → List ℕ → SessionState → List Session → Outcome Answer (List Session)
opening given full id state xs =
    grant (cond (any (has id) xs) (some (refused_plain refusals.SessionInUse)) none) (lowest (λ x. is_free x.state) xs)
    full given (record { id = id; state = state }) xs

-- the lowest session of that identifier that can take this, or 19
abbrev pub taken_at : Option ℕ → (Session → Session) → ℤ → List Session → Outcome Answer (List Session)
taken_at none f status xs = record { answer = refused_plain refusals.NoSession; after = xs }
taken_at (some k) f status xs = record { answer = taken status k; after = set xs k (f (get_or xs k free_session)) }

abbrev pub taking : (SessionState → Bool) → (Session → Session) → Heard → List Session → Outcome Answer (List Session)
taking in' f h xs = taken_at (lowest (can_take in' h.id) xs) f h.status xs

-- the session is freed
abbrev pub ended : Session → Session
ended x = free_session

-- Mq: to owing a confirm, with Mq's timeout
abbrev pub owing : Heard → Session → Session
owing h x = record { id = x.id; state = OwingConfirm (record { start = h.time; timeout = h.timeout }) }

-- 10, 19, or the session after it
abbrev pub at_session : (SessionState → Bool) → Answer → (Session → Session) → Session → Outcome Answer Session
at_session in' done f x =
    cond (is_free x.state) (record { answer = refused_plain refusals.NoSlot; after = x })
    (cond (in' x.state) (record { answer = done; after = f x })
    (record { answer = refused_plain refusals.NoSession; after = x }))

-- ---- the calls, over both tables

abbrev pub with_sessions : List Listener → Outcome Answer (List Session) → Outcome Answer Tables
with_sessions ls o = record { answer = o.answer; after = record { listeners = ls; sessions = o.after } }

abbrev pub with_listeners : List Session → Outcome Answer (List Listener) → Outcome Answer Tables
with_listeners xs o = record { answer = o.answer; after = record { listeners = o.after; sessions = xs } }

-- 11, 20, 12
abbrev pub listen_checks : ℕ → SenderRange → List ℕ → List Listener → List Check
listen_checks com_id senders u ls =
    refusals.Range when reversed senders ∷ refusals.Uri when not (sound u) ∷ refusals.FilterInUse when any
    (holds com_id senders u) ls ∷ []

abbrev pub earlier : Result (Unit {0}) Refusal → Option Answer
earlier (Ok v) = none
earlier (Err r) = some (refused_plain r)

abbrev pub unlistened : Listener → Outcome Answer Listener
unlistened l =
    cond l.used (record { answer = freed; after = free_listener })
    (record { answer = refused_plain refusals.NoSlot; after = l })

-- Mn: 8; no session
abbrev pub notifying : Option ℕ → List Session → Outcome Answer (List Session)
notifying none xs = record { answer = refused_plain refusals.NoMatch; after = xs }
notifying (some l) xs = record { answer = notified l; after = xs }

-- Mr's 8 carries status -3, its 18 carries -4, for the Me to be sent
abbrev pub no_listener : Answer
no_listener = refused refusals.NoMatch (negsuc 2)

abbrev pub all_in_use : Answer
all_in_use = refused refusals.NoFreeSession (negsuc 3)

-- Mr: 8, 17, 18; else the lowest free session, with the user
abbrev pub requesting : Option ℕ → Heard → List Session → Outcome Answer (List Session)
requesting none h xs = record { answer = no_listener; after = xs }
requesting (some l) h xs =
    opening (requested l) all_in_use h.id (WithUser (record { start = h.time; timeout = h.timeout })) xs

abbrev pub arriving : Kind → Option ℕ → Heard → List Session → Outcome Answer (List Session)
arriving Mn l h xs = notifying l xs
arriving Mr l h xs = requesting l h xs
arriving Mp l h xs = taking waits_for_reply ended h xs
arriving Mq l h xs = taking waits_for_reply (owing h) h xs
arriving Mc l h xs = taking waits_for_confirm ended h xs
arriving Me l h xs = taking waits_for_reply ended h xs

-- the lowest matching listener
abbrev pub hearing : Heard → List Listener → Option ℕ
hearing h ls = lowest (hears h.com_id h.sender h.destination) ls

abbrev pub arriving_at : Judged → Tables → Outcome Answer Tables
arriving_at (refusal r) t = record { answer = refused_plain r; after = t }
arriving_at (passed h) t =
    with_sessions t.listeners (arriving (kind_of h.type) (hearing h t.listeners) h t.sessions)

-- what a call answers, and the tables after it
unfoldable pub step : Call → Tables → Outcome Answer Tables
step (listen com_id senders u) t =
    with_listeners t.sessions
    (grant (earlier (first_of (listen_checks com_id senders u t.listeners))) (lowest (λ l. not l.used) t.listeners)
    (refused_plain refusals.NoFreeSlot) listening
    (new_listener com_id senders u) t.listeners)
step (unlisten k) t = with_listeners t.sessions (at_slot free_listener unlistened k t.listeners)
step (calling id timeout time) t =
    with_sessions t.listeners
    (opening opened (refused_plain refusals.NoFreeSession) id
    (WaitingForReply (record { start = time; timeout = timeout })) t.sessions)
step (telegram a d) t = arriving_at (judged a d) t
step (reply k type timeout time) t =
    cond (is_reply type)
    (with_sessions t.listeners
    (at_slot free_session (at_session is_with_user replied (answered type timeout time)) k t.sessions))
    (record { answer = refused_plain refusals.MsgType; after = t })
step (confirm k) t =
    with_sessions t.listeners (at_slot free_session (at_session owes_confirm confirmed ended) k t.sessions)
step (time_check time) t =
    with_sessions t.listeners
    (record { answer = codes (map (λ x. code_of time x.state) t.sessions); after = map (expired time) t.sessions })

-- all free
abbrev pub empty_tables : ℕ → ℕ → Tables
empty_tables m n = record { listeners = replicate m free_listener; sessions = replicate n free_session }
