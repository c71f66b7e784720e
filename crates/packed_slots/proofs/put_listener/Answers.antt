-- The record is written at its place; behind the last slot there is none.
use native.Mathlib.Omega.{arith}
use Rattle.packed_slots.proofs.Places.{listener-put, listener-none}
use Rattle.packed_slots.proofs.put_listener.Goals as goal

pub returns-then-k-lt-SLOTS : goal.returns-then-k-lt-SLOTS
returns-then-k-lt-SLOTS c =
    let a = c.args in
    let e = c.pack_listener.ensures in
    listener-put a.k a.octets.now c.told-octets a.l _ c.if-k-lt-SLOTS.true e.written e.long e.back

pub returns-else-k-lt-SLOTS : goal.returns-else-k-lt-SLOTS
returns-else-k-lt-SLOTS c =
    let a = c.args in
    listener-none a.k a.octets.now c.told-octets a.l (omega arith)
