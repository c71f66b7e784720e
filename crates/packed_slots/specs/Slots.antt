-- One listener or one session of the 1280 octets that a host lends: written at its place, opened, and ruled out in a
-- search.
use Rattle.std.specs.Prelude.{ℕ, ◌≡◌, Bool, ◌&&◌, List, Ok, Err, Result, eqb, set}
use Rattle.session.specs.declared.Listener.{Listener}
use Rattle.session.specs.declared.Session.{Session}
use Rattle.session.specs.declared.SessionState.{SessionState}
use Rattle.session.specs.Session.{is_free, has}
use Rattle.tables.specs.Lists.{any, lowest}
use Rattle.session_table.specs.Calls.{place_of, placed}
use Rattle.refusal.specs.declared.Refusal.{Refusal}
use Rattle.packed.specs.Packed.{tables_of, put_listener, put_session}

-- a record in a slot: the octets that it leaves, and what they mean
pub record PutsSession (k : ℕ) (x : Session) (s s' : List ℕ) : Type 0 where
  pub written : s' ≡ put_session k x s
  pub means : tables_of s' ≡ record { listeners = (tables_of s).listeners; sessions = set (tables_of s).sessions k x }

pub record PutsListener (k : ℕ) (l : Listener) (s s' : List ℕ) : Type 0 where
  pub written : s' ≡ put_listener k l s
  pub means : tables_of s' ≡ record { listeners = set (tables_of s).listeners k l; sessions = (tables_of s).sessions }

-- a session opened in lent octets, and written at its place
abbrev pub placed_in : Result ℕ Refusal → Session → List ℕ → List ℕ
placed_in (Ok k) x octets = put_session k x octets
placed_in (Err r) x octets = octets

-- its place, the tables that the octets mean after it, and the octets
pub record Places (id : List ℕ) (state : SessionState) (octets : List ℕ) (p : Result ℕ Refusal)
    (octets' : List ℕ) : Type 0 where
  pub place : p ≡ place_of (any (has id) (tables_of octets).sessions)
      (lowest (λ x. is_free x.state) (tables_of octets).sessions)
  pub means : tables_of octets' ≡ record {
    listeners = (tables_of octets).listeners;
    sessions = placed p (record { id = id; state = state }) (tables_of octets).sessions;
  }
  pub writes : octets' ≡ placed_in p (record { id = id; state = state }) octets

-- in use with this ComId: a listener that is not neither hears it nor holds a filter for it
abbrev pub used_for : ℕ → Listener → Bool
used_for com_id l = l.used && eqb l.com_id com_id
