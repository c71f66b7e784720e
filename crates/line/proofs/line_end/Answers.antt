-- The first LF of what is left near the end, or the block's end.
use Rattle.std.proofs.Common.{◌≡◌, ℕ, ◌-◌, List, length, take, drop, sym, ◌∙◌, length-drop, take_all, arith}
use Rattle.line.proofs.Ends.{found-at, found-none}
use Rattle.line.proofs.line_end.Goals as goal

pub returns-in-Some-clause-value : goal.returns-in-Some-clause-value
returns-in-Some-clause-value c =
    let b : List ℕ = c.args.block.now in
    let n : ℕ = c.args.from in
    let t : take (length b - n) (drop n b) ≡ drop n b = take_all (length b - n) (drop n b) (omega (arith, length-drop n b)) in
    let f = found-at c.near_end-rest.result.now c.in-Some.k (sym c.in-Some.is ∙ c.first.ensures) in
    let v = rw t at c.near_end-rest.ensures.value in
    let w = rw t at c.near_end-rest.ensures.within in
    omega (arith, length-drop n b, f.0, f.1, v, w)

pub returns-in-None-clause-value : goal.returns-in-None-clause-value
returns-in-None-clause-value c =
    let b : List ℕ = c.args.block.now in
    let n : ℕ = c.args.from in
    let t : take (length b - n) (drop n b) ≡ drop n b = take_all (length b - n) (drop n b) (omega (arith, length-drop n b)) in
    let f = found-none c.near_end-rest.result.now (sym c.in-None.is ∙ c.first.ensures) in
    let v = rw t at c.near_end-rest.ensures.value in
    let w = rw t at c.near_end-rest.ensures.within in
    omega (arith, length-drop n b, f, v, w)
