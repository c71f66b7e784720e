-- The record is read at its place; behind the last slot there is none.
use mathlib.Core.Path.{◌∙◌}
use native.Mathlib.Omega.{arith}
use Rattle.tables.proofs.Arrays.{outside}
use Rattle.packed.specs.Packed.{tables_of}
use Rattle.packed_slots.proofs.Places.{sessions-long, session-read}
use Rattle.session.specs.Session.{free_session}
use Rattle.packed_slots.proofs.session_at.Goals as goal

pub returns-then-k-ge-SLOTS : goal.returns-then-k-ge-SLOTS
returns-then-k-ge-SLOTS c =
    let a = c.args in
    c.free.ensures
    ∙ outside (tables_of a.octets.now).sessions 16 a.k free_session (sessions-long a.octets.now) (omega arith)

pub returns : goal.returns
returns c =
    let a = c.args in
    c.unpack_session.ensures ∙ session-read a.k a.octets.now free_session (omega arith)
