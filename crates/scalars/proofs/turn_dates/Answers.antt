use Rattle.std.proofs.Common.{ℕ, List, [], ◌∷◌, ◌+◌, ◌*◌, arith}
use Rattle.octets.specs.Octets.{Octets}
use Rattle.scalars.proofs.Arrays.{array-next, turned_two}
use Rattle.scalars.proofs.turn_dates.Goals as goal

pub loop-i-preserved : goal.loop-i-preserved
loop-i-preserved c =
    let a = c.args in
    let l = c.loop-i in
    let s : List ℕ = a.source.now in
    let o : Octets s = record { below = λ k. omega (arith, c.type_inv.source k) } in
    array-next (4 ∷ 2 ∷ []) s a.target.now l.i a.p (omega arith) (omega arith) l.invariant
    (turned_two 4 2 (a.p + l.i * 6) c.little.result c.little-in-loop-i.result s l.target o (omega arith) (omega arith)
    c.little.ensures c.put_big.ensures c.little-in-loop-i.ensures c.put_big-in-loop-i.ensures)
