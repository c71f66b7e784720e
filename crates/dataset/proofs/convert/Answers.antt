-- The judging walk gives the answer and leaves the target; the writing walk goes where the judging one went.
use Rattle.std.proofs.Common.{true, false, Ok, refl, ap, arith, length}
use Rattle.dataset.specs.Walk.{whole_of}
use Rattle.dataset.specs.Steps.{Stepped}
use Rattle.dataset.proofs.Walks.{even-whole, whole-nested}
use Rattle.dataset.proofs.Conversions.{written}
use Rattle.dataset.proofs.convert.Goals as goal

pub returns : goal.returns
returns c =
    let a = c.args in
    let s = a.source.now in
    let t = a.target.now in
    let judged = c.datasets.new.target in
    let again = c.datasets-2 in
    let whole = whole_of a.form a.run.now a.id s in
    let one = whole-nested a.form a.run.now a.id s in
    let w : Stepped whole (length s) 0 false t (Ok c.in_ok-p.p) judged = rw one at c.in_ok-p.ensures in
    let v : Stepped whole (length s) 0 true judged again.result again.new.target = rw one at again.ensures in
    written s t judged again.new.target c.in_ok-p.p whole (even-whole a.form a.run.now a.id s) w
    c.if-p-source.false (omega (arith, ap length (w.judges refl))) v
