-- Demand 3 for sessions: the session alone, what it is fed, and the statement.
use Rattle.std.specs.Prelude.{◌≡◌, ℕ, Bool, true, false, cond, ◌&&◌, List, [], ◌∷◌, eqb, pos, get_or}
use Rattle.std.proofs.Math.Option.{Option, none, some}
use Rattle.md.specs.Uri.{equal}
use Rattle.md.specs.Md.{session_id_of}
use Rattle.tables.specs.Trace.{run}
use Rattle.tables.specs.Watch.{Watch, watched, told, watched_alone}
use Rattle.session_table.specs.Table.{Tables}
use Rattle.session.specs.Session.{free_session, is_free}
use Rattle.session.specs.declared.Kind.TheVariants.{Mn, Mr, Mp, Mq, Mc, Me}
use Rattle.session_table.specs.Table.{Call, listen, unlisten, calling, telegram, reply, confirm, time_check, Answer}
use Rattle.session_table.specs.Table.{listening, freed, opened, notified, requested, taken, replied, confirmed, codes}
use Rattle.session_table.specs.Table.{refused, Judged, refusal, passed, judged, Kind, kind_of, step, empty_tables}

-- the session of slot k as a table's only session; no listener is left
abbrev pub slot_at : ℕ → Tables → Tables
slot_at k t = record { listeners = []; sessions = get_or t.sessions k free_session ∷ [] }

abbrev pub unused : Tables → Bool
unused t = is_free (get_or t.sessions 0 free_session).state

-- replies and confirms concern a session that is open
abbrev pub concerns : Kind → Bool
concerns Mn = false
concerns Mr = false
concerns Mp = true
concerns Mq = true
concerns Mc = true
concerns Me = true

-- a telegram of the session's identifier that passed its checks
abbrev pub own_telegram : List ℕ → Judged → Bool
own_telegram id (refusal r) = false
own_telegram id (passed h) = concerns (kind_of h.type) && equal id h.id

-- a call as the session of slot k is fed it, k being the only slot; nothing where it is struck out
abbrev pub fed : ℕ → List ℕ → Call → Option Call
fed k id (listen com_id senders u) = none
fed k id (unlisten j) = none
fed k id (calling i timeout time) = none
fed k id (telegram a d) = cond (own_telegram id (judged a d)) (some (telegram a d)) none
fed k id (reply j type timeout time) = cond (eqb j k) (some (reply 0 type timeout time)) none
fed k id (confirm j) = cond (eqb j k) (some (confirm 0)) none
fed k id (time_check time) = some (time_check time)

-- the number kept: the only slot's answer is slot k's
abbrev pub numbered : ℕ → Answer → Answer
numbered k (listening j) = listening j
numbered k freed = freed
numbered k (opened j) = opened k
numbered k (notified l) = notified l
numbered k (requested l j) = requested l k
numbered k (taken status j) = taken status k
numbered k replied = replied
numbered k confirmed = confirmed
numbered k (codes cs) = codes cs
numbered k (refused r status) = refused r status

-- of a time check's codes its own
abbrev pub own_code : ℕ → Answer → Answer
own_code k (listening j) = listening j
own_code k freed = freed
own_code k (opened j) = opened j
own_code k (notified l) = notified l
own_code k (requested l j) = requested l j
own_code k (taken status j) = taken status j
own_code k replied = replied
own_code k confirmed = confirmed
own_code k (codes cs) = codes (get_or cs k (pos 0) ∷ [])
own_code k (refused r status) = refused r status

-- what a session hears of the answer to a call; nothing where the call does not concern it
abbrev pub heard : ℕ → List ℕ → Call → Answer → Option Answer
heard k id (listen com_id senders u) a = none
heard k id (unlisten j) a = none
heard k id (calling i timeout time) a = none
heard k id (telegram b d) a = cond (own_telegram id (judged b d)) (some a) none
heard k id (reply j type timeout time) a = cond (eqb j k) (some a) none
heard k id (confirm j) a = cond (eqb j k) (some a) none
heard k id (time_check time) a = some (own_code k a)

-- .. and of the session alone's
abbrev pub heard_alone : ℕ → List ℕ → Call → Answer → Option Answer
heard_alone k id (listen com_id senders u) a = none
heard_alone k id (unlisten j) a = none
heard_alone k id (calling i timeout time) a = none
heard_alone k id (telegram b d) a = cond (own_telegram id (judged b d)) (some (numbered k a)) none
heard_alone k id (reply j type timeout time) a = cond (eqb j k) (some a) none
heard_alone k id (confirm j) a = cond (eqb j k) (some a) none
heard_alone k id (time_check time) a = some (own_code 0 a)

-- no call of these gives 1
abbrev pub session_watch : ℕ → List ℕ → Watch Call Answer Tables
session_watch k id =
    record {
      step = step;
      slot = slot_at k;
      free = unused;
      fed = fed k id;
      hears = heard k id;
      hears_alone = heard_alone k id;
      gave1 = λ a. false;
    }

-- the slot that a call opened
abbrev pub opened_at : Answer → Option ℕ
opened_at (listening j) = none
opened_at freed = none
opened_at (opened k) = some k
opened_at (notified l) = none
opened_at (requested l k) = some k
opened_at (taken status j) = none
opened_at replied = none
opened_at confirmed = none
opened_at (codes cs) = none
opened_at (refused r status) = none

-- the identifier of a call that can open a session
abbrev pub identifier : Call → List ℕ
identifier (listen com_id senders u) = []
identifier (unlisten j) = []
identifier (calling id timeout time) = id
identifier (telegram a d) = session_id_of d
identifier (reply j type timeout time) = []
identifier (confirm j) = []
identifier (time_check time) = []

-- from the call that opens it through the call that frees it, a session's record, its answers and its codes are those
-- of the session alone; an opening Mr meets the listeners as the calls before it leave them
abbrev pub OneSession : Type 0
OneSession =
    (m n : ℕ) (before after : List Call) (c : Call) (k : ℕ)
    → let w = session_watch k (identifier c) in
    let t = run step before (empty_tables m n) in
    let o = step c t in
    let alone = step c (record { listeners = t.listeners; sessions = free_session ∷ [] }) in
    opened_at o.answer ≡ some k
    → (o.answer ≡ numbered k alone.answer)
    × (slot_at k o.after ≡ slot_at 0 alone.after)
    × (watched w after o.after ≡ watched_alone w (told w after o.after) (slot_at 0 alone.after))
