-- The data hold the whole array or end in it, and a test of their length tells which.
use Rattle.std.proofs.Common.{◌≡◌, ℕ, ◌+◌, ◌*◌, List, length, drop, Ok, sym, ap, ◌∙◌, subst, arith}
use Rattle.std.proofs.lemmas.Bool.{true≢false}
use Rattle.refusal.specs.declared.Refusal.TheVariants as refusal
use denote.Param.{number}
use Rattle.dataset.specs.contracts.Walk.scalars.{WRITE-type}
use Rattle.std.proofs.Common.{not, eq-eqb, ne_eqb}
use Rattle.octets.specs.Octets.{put}
use Rattle.scalars.specs.Scalars.{parts_of, size, array_at}
use Rattle.dataset.specs.Walk.{times, turned}
use Rattle.dataset.specs.Steps.{Stepped}
use Rattle.dataset.proofs.Steps.{refuses}
use Rattle.dataset.proofs.Turns.{times-short, array_steps}
use Rattle.dataset.proofs.Walk.scalars.Goals.{then-this-ne0, else-this-ne0}
use Rattle.dataset.proofs.Walk.scalars.Goals as goal

pub returns-then-self-p : goal.returns-then-self-p
returns-then-self-p g c =
    let a = c.args in
    let s = a.self.now.source.now in
    let e : c.size.result ≡ size (parts_of a.t) = c.size.ensures ∙ ap size c.of-shape.ensures in
    let m : a.n * c.size.result ≡ a.n * size (parts_of a.t) = ap (λ (x : ℕ). a.n * x) e in
    rw (times-short (parts_of a.t) a.n a.p s c.requires.in_source (omega arith))
    (refuses refusal.DataLength (length s) a.p _ a.target.now)

pub returns : goal.returns
returns g c =
    let a = c.args in
    let s = a.self.now.source.now in
    let e : c.size.result ≡ size (parts_of a.t) = c.size.ensures ∙ ap size c.of-shape.ensures in
    let m : a.n * c.size.result ≡ a.n * size (parts_of a.t) = ap (λ (x : ℕ). a.n * x) e in
    let q : a.p + a.n * size (parts_of a.t) ≡ a.p + a.n * c.size.result = ap (λ (x : ℕ). a.p + x) (sym m) in
    subst (λ (x : ℕ). Stepped (times a.n (turned (parts_of a.t)) (drop a.p s)) (length s) a.p
    (WRITE-type (number g.row.WRITE)) a.target.now (Ok x) c.if-this-ne0.target) q
    (array_steps (parts_of a.t) s a.target.now c.if-this-ne0.target a.n a.p _ (omega arith)
    (λ f. elim c.if-this-ne0.branch [
      | then-this-ne0 w ↦ absurd (true≢false (sym (ap not (ne_eqb g.row.WRITE 0 w.if-this-ne0.true)) ∙ f))
      | else-this-ne0 w ↦ w.target-is
    ])
    (λ f. elim c.if-this-ne0.branch [
      | then-this-ne0 w ↦
          w.target-is ∙ w.turn.ensures
          ∙ ap (λ (ks : List ℕ). put a.p (array_at a.n ks a.p s) a.target.now) c.of-shape.ensures
      | else-this-ne0 w ↦ absurd (true≢false (sym f ∙ ap not (eq-eqb g.row.WRITE 0 w.if-this-ne0.false)))
    ]))
