-- A part without LF is passed over.
use Rattle.std.proofs.Common.{◌≡◌, ℕ, ◌+◌, List, false, take, drop, sym, ap, ◌∙◌, arith}
use Rattle.line.specs.Lines.{has_end, until_end}
use Rattle.line.proofs.Ends.{passed}
use Rattle.line.proofs.near_end.Goals as goal

pub loop-part-preserved : goal.loop-part-preserved
loop-part-preserved c =
    let r : List ℕ = c.loop-part.rest.now in
    let h = c.in-Some.ensures.cases in
    let e : has_end (take 64 r) ≡ false = ap has_end (sym h.1) ∙ sym c.has_end.ensures ∙ c.if-has_end.false in
    let p : 64 + until_end (drop 64 r) ≡ until_end r = passed r 64 h.0 e in
    let q : until_end c.in-Some.behind.now ≡ until_end (drop 64 r) = ap until_end h.2 in
    (omega (arith, h.4), omega (arith, h.0, h.4))
