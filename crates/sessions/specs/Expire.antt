-- One session of the octets at a time check.
use Rattle.std.specs.Prelude.{ℕ, ◌≡◌, List, get_or, set}
use Rattle.session.specs.Session.{free_session, expired}
use Rattle.packed.specs.Packed.{tables_of}
use Rattle.packed_slots.specs.Calls.{expired_at}

-- session k's time looked at: the octets that it leaves, and what they mean
pub record Expires (time k : ℕ) (octets octets' : List ℕ) : Type 0 where
  pub writes : octets' ≡ expired_at time k octets
  pub means : tables_of octets' ≡ record {
    listeners = (tables_of octets).listeners;
    sessions = set (tables_of octets).sessions k
        (expired time (get_or (tables_of octets).sessions k free_session));
  }
