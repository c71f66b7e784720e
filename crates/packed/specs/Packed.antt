-- Listeners and sessions as 1280 octets that a host lends: sixteen listeners of 48, then sixteen sessions of 32.
-- Numbers stand least significant octet first.
use Rattle.std.specs.Prelude.{ℕ, zero, suc, ◌+◌, ◌*◌, List, [], ◌∷◌, ◌++◌, map, cond, not, eqb, ltb, get_or, take, drop}
use Rattle.octets.specs.Octets.{little, little_of, part, put}
use Rattle.timing.specs.declared.Timing.{Timing}
use Rattle.session.specs.declared.Listener.{Listener}
use Rattle.session.specs.declared.Session.{Session}
use Rattle.session.specs.declared.SessionState.{SessionState}
use Rattle.session.specs.declared.SessionState.TheVariants.{Free, WaitingForReply, OwingConfirm, WithUser, WaitingForConfirm}
use Rattle.session_table.specs.Table.{Tables}
pub use Rattle.session.specs.Session.{state_number, timing_of}

-- ---- octets that a host lends, taken for tables: every octet has a meaning

-- used 1 (0 free, any other in use), three that are not looked at, ComId 4, start 4, end 4, URI 32
abbrev pub listener_of : List ℕ → Listener
listener_of s =
    record {
      used = not (eqb (get_or s 0 0) 0);
      com_id = little (part 4 4 s);
      senders = record { start = little (part 4 8 s); end = little (part 4 12 s) };
      uri = part 32 16 s;
    }

-- 1 waiting for reply, 2 owing a confirm, 3 with the user, 4 waiting for confirm, any other free
abbrev pub state_of : ℕ → Timing → SessionState
state_of n t =
    cond (eqb n 1)
    (WaitingForReply t)
    (cond (eqb n 2) (OwingConfirm t) (cond (eqb n 3) (WithUser t) (cond (eqb n 4) (WaitingForConfirm t) Free)))

-- state 1, three that are not looked at, timeout 4, start 8, identifier 16
abbrev pub session_of : List ℕ → Session
session_of s =
    record {
      id = part 16 16 s;
      state = state_of (get_or s 0 0) (record { start = little (part 8 8 s); timeout = little (part 4 4 s) });
    }

-- n parts of w octets, one behind the other
abbrev pub cut : ℕ → ℕ → List ℕ → List (List ℕ)
cut zero w s = []
cut (suc n) w s = take w s ∷ cut n w (drop w s)

unfoldable pub listeners_of : List ℕ → List Listener
listeners_of s = map listener_of (cut 16 48 s)

unfoldable pub sessions_of : List ℕ → List Session
sessions_of s = map session_of (cut 16 32 s)

abbrev pub tables_of : List ℕ → Tables
tables_of s = record { listeners = listeners_of s; sessions = sessions_of (drop 768 s) }

-- ---- one record as octets

-- used 1 and three zeros, ComId 4, start 4, end 4, URI 32
abbrev pub listener_octets : Listener → List ℕ
listener_octets l =
    little_of 4 (cond l.used 1 0)
    ++ little_of 4 l.com_id
    ++ little_of 4 l.senders.start
    ++ little_of 4 l.senders.end
    ++ l.uri

-- state 1 and three zeros, timeout 4, start 8, identifier 16
abbrev pub session_octets : Session → List ℕ
session_octets x =
    little_of 4 (state_number x.state)
    ++ little_of 4 (timing_of x.state).timeout
    ++ little_of 8 (timing_of x.state).start
    ++ x.id

-- ---- one record written at its place; from 16 on there is no such place

abbrev pub put_listener : ℕ → Listener → List ℕ → List ℕ
put_listener k l s = cond (ltb k 16) (put (k * 48) (listener_octets l) s) s

abbrev pub put_session : ℕ → Session → List ℕ → List ℕ
put_session k x s = cond (ltb k 16) (put (768 + k * 32) (session_octets x) s) s
