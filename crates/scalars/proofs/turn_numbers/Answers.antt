use Rattle.std.proofs.Common.{ℕ, List, ◌+◌, ◌*◌, ◌≤◌, ap, ◌∙◌, arith}
use native.Mathlib.Nat.{mul-le-mul_left}
use Rattle.octets.specs.Octets.{Octets, little, part}
use Rattle.scalars.proofs.Arrays.{number-next}
use Rattle.scalars.proofs.turn_numbers.Goals as goal

pub loop-i-preserved : goal.loop-i-preserved
loop-i-preserved g c =
    let a = c.args in
    let l = c.loop-i in
    let w : ℕ = g.W.Number.WIDTH in
    let s : List ℕ = a.source.now in
    let o : Octets s = record { below = λ k. omega (arith, c.type_inv.source k) } in
    let more : l.i + 1 ≤ a.n = omega arith in
    number-next w l.i a.p _ s a.target.now o (omega (arith, mul-le-mul_left w more, c.requires.in_source)) (omega arith)
    l.invariant
    (c.little.ensures ∙ ap (λ (m : ℕ). little (part w (a.p + l.i * m) s)) c.WIDTH.ensures)
    (rw c.WIDTH.ensures at c.put_big.ensures)
