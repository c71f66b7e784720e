-- The answers of the calls on listeners and sessions, as structs of numbers.
use Rattle.std.specs.Prelude.{ℕ, ℤ, pos, replicate, Ok, Err, Result}
use Rattle.refusal.specs.Refusal.{number}
use Rattle.refusal.specs.declared.Refusal.{Refusal}
use Rattle.session_table.specs.Table as table
use Rattle.session.specs.Session.{state_number, timing_of}
use Rattle.session.specs.declared.Session.{Session}
use Rattle.boundary.specs.declared.Outcome.{Outcome}
use Rattle.boundary.specs.declared.MdOutcome.{MdOutcome}
use Rattle.boundary.specs.declared.SessionSeen.{SessionSeen}
use Rattle.boundary.specs.Wire.{granted, refused}

-- the slot of a listener or a session; 0 where there is nothing to say
abbrev pub outcome_of : table.Answer → Outcome
outcome_of (table.listening k) = granted k
outcome_of table.freed = granted 0
outcome_of (table.opened k) = granted k
outcome_of (table.notified l) = granted l
outcome_of (table.requested l k) = granted k
outcome_of (table.taken status k) = granted k
outcome_of table.replied = granted 0
outcome_of table.confirmed = granted 0
outcome_of (table.codes cs) = granted 0
outcome_of (table.refused r status) = refused r

-- 0 refused, 1 notified, 2 requested, 3 taken
abbrev pub told : ℕ → ℕ → ℤ → ℕ → ℕ → MdOutcome
told kind refusal status listener session =
    record { kind = kind; refusal = refusal; status = status; listener = listener; session = session }

-- Mn names its listener; Mr its listener and its session; the others replyStatus and the session. A refusal carries its
-- status
abbrev pub md_outcome_of : table.Answer → MdOutcome
md_outcome_of (table.listening k) = told 0 0 (pos 0) 0 0
md_outcome_of table.freed = told 0 0 (pos 0) 0 0
md_outcome_of (table.opened k) = told 0 0 (pos 0) 0 0
md_outcome_of (table.notified l) = told 1 0 (pos 0) l 0
md_outcome_of (table.requested l k) = told 2 0 (pos 0) l k
md_outcome_of (table.taken status k) = told 3 0 status 0 k
md_outcome_of table.replied = told 0 0 (pos 0) 0 0
md_outcome_of table.confirmed = told 0 0 (pos 0) 0 0
md_outcome_of (table.codes cs) = told 0 0 (pos 0) 0 0
md_outcome_of (table.refused r status) = told 0 (number r) status 0 0

-- a session as a host sees it; start and timeout are zeros where it is free
abbrev pub seen : Session → SessionSeen
seen x =
    record {
      refusal = 0;
      state = state_number x.state;
      id = x.id;
      start = (timing_of x.state).start;
      timeout = (timing_of x.state).timeout;
    }

abbrev pub not_seen : Refusal → SessionSeen
not_seen r = record { refusal = number r; state = 0; id = replicate 16 0; start = 0; timeout = 0 }

abbrev pub of_session : Result Session Refusal → SessionSeen
of_session (Ok x) = seen x
of_session (Err r) = not_seen r
