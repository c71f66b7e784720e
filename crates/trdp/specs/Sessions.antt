-- The calls on listeners and sessions, over the 1280 octets that a host lends: the tables that the octets mean after a
-- call, and its answer, are those of the rules.
use Rattle.std.specs.Prelude.{ℕ, ◌≡◌, List, cond, ltb, get_or}
use Rattle.refusal.specs.declared.Refusal.TheVariants as refusal
use Rattle.telegram.specs.declared.Family.TheVariants.{Md}
use Rattle.arrival.specs.declared.Arrival.{Arrival}
use Rattle.statistics.specs.Statistics.{added}
use Rattle.statistics.specs.declared.Statistics.{Statistics}
use Rattle.session.specs.Session.{free_session}
use Rattle.session_table.specs.Table as table
use Rattle.session_table.specs.Table.{Call, step, telegram, time_check}
use Rattle.packed_slots.specs.Calls.{octets_after}
use Rattle.packed.specs.Packed.{tables_of}
use Rattle.boundary.specs.declared.Outcome.{Outcome}
use Rattle.boundary.specs.declared.MdOutcome.{MdOutcome}
use Rattle.boundary.specs.declared.Codes.{Codes}
use Rattle.boundary.specs.declared.SessionSeen.{SessionSeen}
use Rattle.boundary.specs.Sessions.{outcome_of, md_outcome_of, seen, not_seen}

-- a user's call
pub record Follows (c : Call) (octets : List ℕ) (r : Outcome) (octets' : List ℕ) : Type 0 where
  pub answers : r ≡ outcome_of (step c (tables_of octets)).answer
  pub means : tables_of octets' ≡ (step c (tables_of octets)).after
  pub leaves : octets' ≡ octets_after c octets

-- a telegram's answer, and the octets after it
pub record Arrives (a : Arrival) (datagram octets : List ℕ) (r : MdOutcome) (octets' : List ℕ) : Type 0 where
  pub answers : r ≡ md_outcome_of (step (telegram a datagram) (tables_of octets)).answer
  pub means : tables_of octets' ≡ (step (telegram a datagram) (tables_of octets)).after
  pub leaves : octets' ≡ octets_after (telegram a datagram) octets

-- .. and the statistics, which count its refusal number, or 0 where it is delivered
pub record Receives (a : Arrival) (datagram octets : List ℕ) (statistics : Statistics)
    (r : MdOutcome) (octets' : List ℕ) (statistics' : Statistics) : Type 0 where
  pub arrives : Arrives a datagram octets r octets'
  pub counts : statistics' ≡ added Md r.refusal statistics

-- the time check: a code for each session slot; the sessions that it frees are written
pub record Checks (time : ℕ) (octets : List ℕ) (r : Codes) (octets' : List ℕ) : Type 0 where
  pub answers : table.codes r.codes ≡ (step (time_check time) (tables_of octets)).answer
  pub means : tables_of octets' ≡ (step (time_check time) (tables_of octets)).after
  pub leaves : octets' ≡ octets_after (time_check time) octets

-- session k; 10 where there is no such slot
abbrev pub session_seen : List ℕ → ℕ → SessionSeen
session_seen octets k =
    cond (ltb k 16) (seen (get_or (tables_of octets).sessions k free_session)) (not_seen refusal.NoSlot)
