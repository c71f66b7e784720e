-- What writing answers and leaves, from the number that its checks give.
-- Assumes nothing.
-- a telegram that can be written
use mathlib.Core.Path.{◌≡◌}
use mathlib.Core.Bool.{Bool, true}
use Prim.Native.Nat.{ℕ, ◌+◌, ◌/◌, ◌≤◌}
use borrow.Author.Tests.{ltb-false, eqb-true, not-false}
use Rattle.refusal.specs.Refusal.{first_of}
use Rattle.refusal.proofs.Order.{passed}
use Rattle.std.specs.Prelude.{Ok}
use Rattle.telegram.specs.declared.Common.{Common}
use Rattle.telegram.specs.declared.Family.{Family}
use Rattle.telegram.specs.Telegram.{header_size, dataset_limit, types, member, padded, write_checks}

pub record Granted (f : Family) (c : Common) (n : ℕ) (sound_uris : Bool) (room : ℕ) : Type 0 where
  pub version : c.protocol_version / 256 ≡ 1
  pub type : member c.msg_type (types f) ≡ true
  pub limit : n ≤ dataset_limit f
  pub uris : sound_uris ≡ true
  pub fits : header_size f + padded n ≤ room

pub granted : (f : Family) (c : Common) (n : ℕ) (sound_uris : Bool) (room : ℕ) → first_of (write_checks f c n sound_uris room) ≡ Ok tt → Granted f c n sound_uris room
granted f c n sound_uris room e =
    let p = passed (write_checks f c n sound_uris room) e in
    record {
      version = eqb-true _ _ (not-false _ p.0);
      type = not-false _ p.1.0;
      limit = ltb-false _ _ p.1.1.0;
      uris = not-false _ p.1.1.1.0;
      fits = ltb-false _ _ p.1.1.1.1.0;
    }
