-- The description at the head of what is left is malformed, is the one sought, or is passed.
use Rattle.std.proofs.Common.{◌≡◌, sym, ap, ◌∙◌, ne_eqb, length, arith, Some}
use Rattle.std.specs.Option.{option_map}
use Rattle.dataset.specs.Descriptions.{headed}
use Rattle.dataset.specs.Steps.{described_by}
use Rattle.dataset.proofs.Descriptions.{passes}
use Rattle.dataset.proofs.look_up.Goals as goal

pub loop-rest-preserved : goal.loop-rest-preserved
loop-rest-preserved c =
    let a = c.args in
    let h = c.in_ok-head in
    let l = c.loop-rest in
    let e : Some (described_by h.head h.elements.now h.more.now) ≡ headed l.rest.now =
    ap (option_map (λ p. described_by p.0 p.1.now p.2.now)) (sym h.ensures.ok_part) ∙ c.description.ensures in
    let p = passes (length a.run.now) a.id l.rest.now _ l.invariant.0 e in
    (omega (arith, p.shorter, l.invariant.0), l.invariant.1 ∙ p.on ∙ rw (ne_eqb h.head a.id c.if-head-id.false))
