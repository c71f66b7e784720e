use Rattle.std.proofs.Common.{ℕ, List, [], ◌/◌, ◌<◌, length, get_or, ap, ◌∙◌, arith}
use Rattle.octets.specs.Octets.{Octets}
use Rattle.fcs.proofs.Joined.{chunk_at}
use Rattle.fcs.proofs.Turns.{turned-chunk}
use Rattle.fcs.proofs.update.Goals as goal

pub loop-eight-preserved : goal.loop-eight-preserved
loop-eight-preserved c =
    let l = c.loop-eight in
    let s : List ℕ = c.args.s.now in
    let k : ℕ = length s / 8 in
    let i : ℕ = l.eight-index in
    let h : i < k = omega (arith, c.as_chunks.ensures.front_len, c.loop-eight-test.true) in
    let o : Octets s = record { below = λ k. omega (arith, c.type_inv.s k) } in
    let chunk = ap (λ (es : List (List ℕ)). get_or es i []) c.as_chunks.ensures.front ∙ chunk_at 8 k i s h in
    l.invariant
    ∙ turned-chunk s o i l.c (omega arith) chunk c.little-u.ensures c.little-v.ensures c.turn.ensures c.turn-in-loop-eight.ensures
