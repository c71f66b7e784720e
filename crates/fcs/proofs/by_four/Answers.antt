-- Four octets are taken as one number, and the others by the fold over octets.
use Rattle.std.proofs.Common.{ℕ, List, ◌≤◌, length, take, sym, ap, ◌∙◌, arith}
use Rattle.std.proofs.lemmas.List.{take-take}
use Rattle.octets.specs.Octets.{Octets, little}
use Rattle.fcs.specs.Fcs.{register}
use Rattle.fcs.proofs.Turns.{turned-four}
use Rattle.fcs.proofs.by_four.Goals as goal

pub returns-in-Some : goal.returns-in-Some
returns-in-Some c =
    let a = c.args in
    let s : List ℕ = a.s.now in
    let cut = c.in-Some.ensures.cases in
    let h : 4 ≤ length s = omega (arith, cut.2) in
    let o : Octets s = record { below = λ k. omega (arith, c.type_inv.s k) } in
    let read = c.little.ensures ∙ ap little (ap (take 4) cut.0 ∙ take-take 4 4 s (omega arith)) in
    c.by_ones.ensures ∙ ap (register c.turn.result) cut.1 ∙ sym (turned-four s o 0 a.begun h read c.turn.ensures)
