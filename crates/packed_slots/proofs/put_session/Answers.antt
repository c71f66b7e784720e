-- The record is written at its place; behind the last slot there is none.
use native.Mathlib.Omega.{arith}
use Rattle.packed_slots.proofs.Places.{session-put, session-none}
use Rattle.packed_slots.proofs.put_session.Goals as goal

pub returns-then-k-lt-SLOTS : goal.returns-then-k-lt-SLOTS
returns-then-k-lt-SLOTS c =
    let a = c.args in
    let e = c.pack_session.ensures in
    session-put a.k a.octets.now c.told-octets a.x _ c.if-k-lt-SLOTS.true e.written e.long e.back

pub returns-else-k-lt-SLOTS : goal.returns-else-k-lt-SLOTS
returns-else-k-lt-SLOTS c =
    let a = c.args in
    session-none a.k a.octets.now c.told-octets a.x (omega arith)
