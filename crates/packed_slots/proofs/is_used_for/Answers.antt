-- The first octet and the ComId are those of the listener.
use native.Mathlib.Omega.{arith}
use Rattle.std.proofs.lemmas.Bool.Decides.{nat_tests}
use Rattle.packed_slots.proofs.Fields.{used_at, com_id_at}
use Rattle.packed_slots.proofs.is_used_for.Goals as goal

pub returns-then-octets-at-ne0 : goal.returns-then-octets-at-ne0
returns-then-octets-at-ne0 c =
    let a = c.args in
    rw (← used_at a.k a.octets.now (omega arith), ← com_id_at a.k a.octets.now (omega arith), ← c.little.ensures)
    (grind (arith, nat_tests))

pub returns-else-octets-at-ne0 : goal.returns-else-octets-at-ne0
returns-else-octets-at-ne0 c =
    let a = c.args in
    rw (← used_at a.k a.octets.now (omega arith)) (grind (arith, nat_tests))
