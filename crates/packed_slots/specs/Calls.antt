-- What a call on listeners and sessions leaves in the 1280 octets that a host lends: the one record that it changed
-- is written.
use Rattle.std.specs.Prelude.{ℕ, zero, suc, ◌≡◌, cond, List, ℤ, get_or}
use Rattle.session.specs.Listener.{free_listener}
use Rattle.session.specs.Session.{free_session, is_up}
use Rattle.session_table.specs.Table as table
use Rattle.session_table.specs.Table.{Tables, Call, listen, unlisten, calling, telegram, reply, confirm, time_check, step}
use Rattle.packed.specs.Packed.{tables_of, put_listener, put_session}

-- the slot that a call names
abbrev pub named : Call → ℕ
named (listen com_id senders u) = 0
named (unlisten k) = k
named (calling id timeout time) = 0
named (telegram a d) = 0
named (reply k type timeout time) = k
named (confirm k) = k
named (time_check time) = 0

-- slot k of the tables after a call, written at its place
abbrev pub with_listener : ℕ → Tables → List ℕ → List ℕ
with_listener k after octets = put_listener k (get_or after.listeners k free_listener) octets

abbrev pub with_session : ℕ → Tables → List ℕ → List ℕ
with_session k after octets = put_session k (get_or after.sessions k free_session) octets

-- session k is written, free, where its time is up; else its octets stay
abbrev pub expired_at : ℕ → ℕ → List ℕ → List ℕ
expired_at time k octets =
    cond (is_up time (get_or (tables_of octets).sessions k free_session).state) (put_session k free_session octets)
    octets

-- the first n sessions, one after the other
unfoldable pub expired_in : ℕ → ℕ → List ℕ → List ℕ
expired_in time zero octets = octets
expired_in time (suc n) octets = expired_at time n (expired_in time n octets)

-- the time of a time check
abbrev pub time_of : Call → ℕ
time_of (listen com_id senders u) = 0
time_of (unlisten k) = 0
time_of (calling id timeout time) = 0
time_of (telegram a d) = 0
time_of (reply k type timeout time) = 0
time_of (confirm k) = 0
time_of (time_check time) = time

-- the octets after call c: one record is written, in the slot that the answer or the call names; a notification and a
-- refusal write nothing; a time check writes the sessions that it freed
abbrev pub left_by : Call → table.Answer → Tables → List ℕ → List ℕ
left_by c (table.listening k) after octets = with_listener k after octets
left_by c table.freed after octets = with_listener (named c) after octets
left_by c (table.opened k) after octets = with_session k after octets
left_by c (table.notified l) after octets = octets
left_by c (table.requested l k) after octets = with_session k after octets
left_by c (table.taken status k) after octets = with_session k after octets
left_by c table.replied after octets = with_session (named c) after octets
left_by c table.confirmed after octets = with_session (named c) after octets
left_by c (table.codes cs) after octets = expired_in (time_of c) 16 octets
left_by c (table.refused r status) after octets = octets

-- the octets after a call
abbrev pub octets_after : Call → List ℕ → List ℕ
octets_after c octets = let o = step c (tables_of octets) in left_by c o.answer o.after octets

-- a call over lent octets: what it answers and the tables that the octets mean after it are those of the rules
pub record Follows (c : Call) (octets : List ℕ) (a : table.Answer) (octets' : List ℕ) : Type 0 where
  pub answers : a ≡ (step c (tables_of octets)).answer
  pub means : tables_of octets' ≡ (step c (tables_of octets)).after
  pub leaves : octets' ≡ octets_after c octets

-- a time check: the codes are its answer
pub record Checks (time : ℕ) (octets : List ℕ) (codes : List ℤ) (octets' : List ℕ) : Type 0 where
  pub answers : table.codes codes ≡ (step (time_check time) (tables_of octets)).answer
  pub means : tables_of octets' ≡ (step (time_check time) (tables_of octets)).after
  pub leaves : octets' ≡ octets_after (time_check time) octets
