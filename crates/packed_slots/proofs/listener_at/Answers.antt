-- The record is read at its place; behind the last slot there is none.
use mathlib.Core.Path.{◌∙◌}
use native.Mathlib.Omega.{arith}
use Rattle.tables.proofs.Arrays.{outside}
use Rattle.packed.specs.Packed.{tables_of}
use Rattle.packed_slots.proofs.Places.{listeners-long, listener-read}
use Rattle.session.specs.Listener.{free_listener}
use Rattle.packed_slots.proofs.listener_at.Goals as goal

pub returns-then-k-ge-SLOTS : goal.returns-then-k-ge-SLOTS
returns-then-k-ge-SLOTS c =
    let a = c.args in
    c.free.ensures
    ∙ outside (tables_of a.octets.now).listeners 16 a.k free_listener (listeners-long a.octets.now) (omega arith)

pub returns : goal.returns
returns c =
    let a = c.args in
    c.unpack_listener.ensures ∙ listener-read a.k a.octets.now free_listener (omega arith)
