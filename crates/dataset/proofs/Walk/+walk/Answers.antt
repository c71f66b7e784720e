-- What is left to walk, at each element and at each dataset: the next one, then what is left behind it.
use Rattle.std.proofs.Common.{◌≡◌, ◌-◌, length, drop, map, None, refl, sym, ap, ◌∙◌, arith}
use Rattle.std.specs.Option.{option_or}
use Rattle.dataset.specs.Descriptions.{element_of}
use Rattle.dataset.specs.Walk.{walk_of, nested_of}
use Rattle.dataset.proofs.Walks.{takes-walk, even-walk, takes-items, even-items}
use Rattle.dataset.proofs.Steps.{stays, refuses, step-inside, reaches_end, reaches_stopped, reaches_refused}
use Rattle.dataset.proofs.Steps.{reaches_more}
use Rattle.dataset.proofs.Loops.{nested-none, nested-found, times-more, walk-known, walk-bad, items-scalar}
use Rattle.dataset.proofs.Loops.{items-nested}
use Rattle.std.proofs.Common.{[]}
use native.Mathlib.Nat.{sub-zero}
use Rattle.refusal.specs.declared.Refusal.TheVariants as refusal
use Rattle.std.proofs.lemmas.Result.{err_from_is_err_and}
use lib.ListN.{drop_of_length-le}
use lib.ListN.{get_or}
use denote.Param.{number}
use Rattle.dataset.specs.contracts.Walk.dataset.{WRITE-type}
use Rattle.dataset.specs.Walk.{items_of}
use Rattle.dataset.specs.Steps.{Stepped}
use Rattle.dataset.proofs.Walk.+walk.Goals.{dataset-then-t-lt17, dataset-else-t-lt17}
use Rattle.dataset.proofs.Walk.+walk.Goals as goal

pub datasets-returns-then-n-eq0 : goal.datasets-returns-then-n-eq0
datasets-returns-then-n-eq0 g t c =
    let a = c.args in
    let s = a.self.now in
    rw (nested-none s.levels s.form s.run.now a.id a.n (drop a.from s.source.now) c.if-n-eq0.true)
    (stays s.source.now a.from _ a.target.now c.requires.in_source)

pub datasets-returns-in_err-elements : goal.datasets-returns-in_err-elements
datasets-returns-in_err-elements g t c =
    let a = c.args in
    let s = a.self.now in
    let p = err_from_is_err_and c.from_residual.result c.from_residual.ensures.1 in
    rw (
      p.1,
      p.2,
      nested-found s.levels s.form s.run.now a.id a.n (drop a.from s.source.now) c.if-n-eq0.false
          c.if-self-eq0.false,
      sym c.in_err-elements.ensures,
    )
    (refuses c.in_err-elements.field-0.0 (length s.source.now) a.from _ a.target.now)

pub datasets-loop-init : goal.datasets-loop-init
datasets-loop-init g t c =
    let a = c.args in
    let s = a.self.now in
    record {
      in_source = c.requires.in_source;
      same_length = refl;
      reaches =
          λ r u w. rw (
            nested-found s.levels s.form s.run.now a.id a.n (drop a.from s.source.now) c.if-n-eq0.false
                c.if-self-eq0.false,
            sym c.in_ok-elements.ensures,
          ) (rw (sub-zero a.n) at w);
    }

pub datasets-returns-in_err-p : goal.datasets-returns-in_err-p
datasets-returns-in_err-p g t c =
    let a = c.args in
    let s = a.self.now in
    let l = c.loop in
    let p = err_from_is_err_and c.from_residual-in_err-p.result c.from_residual-in_err-p.ensures.1 in
    let es = map element_of c.in_ok-elements.elements.now in
    let more = times-more a.n l.counter (walk_of s.form (nested_of (s.levels - 1) s.form s.run.now) es None)
    (drop l.p s.source.now) (omega arith) in
    rw (p.1, p.2)
    (reaches_refused _ s.source.now a.from _ a.target.now l.p l.target _ _ (rw more at l.invariant.reaches)
    c.in_err-p.field-0.0 c.dataset.new.target c.in_err-p.ensures)

pub datasets-loop-preserved : goal.datasets-loop-preserved
datasets-loop-preserved g t c =
    let a = c.args in
    let s = a.self.now in
    let l = c.loop in
    let es = map element_of c.in_ok-elements.elements.now in
    let d = drop l.p s.source.now in
    let more = times-more a.n l.counter (walk_of s.form (nested_of (s.levels - 1) s.form s.run.now) es None) d
    (omega arith) in
    record {
      in_source = step-inside c.in_ok-p.ensures;
      same_length = c.dataset.auto.target ∙ l.invariant.same_length;
      reaches =
          reaches_more _ s.source.now a.from _ a.target.now l.p l.target _ _ (rw more at l.invariant.reaches)
          c.in_ok-p.p c.dataset.new.target l.invariant.in_source
          (λ e. omega (arith, l.invariant.same_length, c.requires.room e))
          (takes-walk (s.levels - 1) s.form s.run.now es None d)
          (even-walk (s.levels - 1) s.form s.run.now es None d) c.in_ok-p.ensures;
    }

pub datasets-returns : goal.datasets-returns
datasets-returns g t c =
    let a = c.args in
    let s = a.self.now in
    let l = c.loop in
    let none : a.n - l.counter ≡ 0 = omega arith in
    reaches_end _ s.source.now a.from _ a.target.now l.p l.target (rw none at l.invariant.reaches) l.invariant.in_source

pub dataset-returns-in_err-n : goal.dataset-returns-in_err-n
dataset-returns-in_err-n g t c =
    let a = c.args in
    let s = a.self.now in
    let l = c.loop-t in
    let p = err_from_is_err_and c.from_residual.result c.from_residual.ensures.1 in
    let none = sym (c.or.ensures ∙ ap (λ o. option_or o l.before) c.then_some.ensures) ∙ c.in_err-n.ensures.ok_part in
    let bad = walk-bad s.form (nested_of s.levels s.form s.run.now) a.elements.now l.t-index l.before
    (drop l.p s.source.now) (omega arith) none in
    let value = c.in_err-n.ensures.value in
    let same : c.in_err-n.field-0.0 ≡ refusal.Description = cc (rw c.in_err-n.ensures.ok_part at value) in
    rw (p.1, p.2, same)
    (reaches_stopped _ s.source.now a.from _ a.target.now l.p l.target refusal.Description
    (rw bad at l.invariant.reaches))

-- What an item's walk did (`item`) stands here and below: each goal has its branches in a type of its own.
pub dataset-returns-in_err-q : goal.dataset-returns-in_err-q
dataset-returns-in_err-q g t c =
    let a = c.args in
    let s = a.self.now in
    let l = c.loop-t in
    let d = drop l.p s.source.now in
    let nested = nested_of s.levels s.form s.run.now in
    let n = c.in_ok-n.n in
    let many = sym (c.or.ensures ∙ ap (λ o. option_or o l.before) c.then_some.ensures) ∙ c.in_ok-n.ensures.ok_part in
    let more = walk-known s.form nested a.elements.now l.t-index l.before d (omega arith) n many in
    let p = err_from_is_err_and c.from_residual-in_err-q.result c.from_residual-in_err-q.ensures.1 in
    let item : Stepped (items_of nested (get_or (get_or a.elements.now l.t-index []) 0 0) n d) (length s.source.now)
    l.p (WRITE-type (number g.row.WRITE)) l.target c.if-t-lt17.branch' c.if-t-lt17.target =
    elim c.if-t-lt17.branch [
      | dataset-then-t-lt17 w ↦
          rw (w.target-is, w.branch'-is, items-scalar nested _ n d w.if-t-lt17.true) w.scalars.ensures
      | dataset-else-t-lt17 w ↦
          rw (w.target-is, w.branch'-is, items-nested nested _ n d w.if-t-lt17.false) w.datasets.ensures
    ] in
    rw (p.1, p.2)
    (reaches_refused _ s.source.now a.from _ a.target.now l.p l.target _ _ (rw more at l.invariant.reaches)
    c.in_err-q.field-0.0 c.if-t-lt17.target (rw c.in_err-q.was at item))

pub dataset-loop-t-preserved : goal.dataset-loop-t-preserved
dataset-loop-t-preserved g t c =
    let a = c.args in
    let s = a.self.now in
    let l = c.loop-t in
    let d = drop l.p s.source.now in
    let nested = nested_of s.levels s.form s.run.now in
    let n = c.in_ok-n.n in
    let many = sym (c.or.ensures ∙ ap (λ o. option_or o l.before) c.then_some.ensures) ∙ c.in_ok-n.ensures.ok_part in
    let more = walk-known s.form nested a.elements.now l.t-index l.before d (omega arith) n many in
    let item : Stepped (items_of nested (get_or (get_or a.elements.now l.t-index []) 0 0) n d) (length s.source.now)
    l.p (WRITE-type (number g.row.WRITE)) l.target c.if-t-lt17.branch' c.if-t-lt17.target =
    elim c.if-t-lt17.branch [
      | dataset-then-t-lt17 w ↦
          rw (w.target-is, w.branch'-is, items-scalar nested _ n d w.if-t-lt17.true) w.scalars.ensures
      | dataset-else-t-lt17 w ↦
          rw (w.target-is, w.branch'-is, items-nested nested _ n d w.if-t-lt17.false) w.datasets.ensures
    ] in
    let on = rw c.in_ok-q.was at item in
    record {
      in_source = step-inside on;
      same_length = c.if-t-lt17.auto.target ∙ l.invariant.same_length;
      reaches =
          rw c.count_behind-before.ensures
          (reaches_more _ s.source.now a.from _ a.target.now l.p l.target _ _ (rw more at l.invariant.reaches)
          c.in_ok-q.q c.if-t-lt17.target l.invariant.in_source
          (λ e. omega (arith, l.invariant.same_length, c.requires.room e))
          (takes-items s.levels s.form s.run.now _ n d)
          (even-items s.levels s.form s.run.now _ n d) on);
    }

pub dataset-returns : goal.dataset-returns
dataset-returns g t c =
    let a = c.args in
    let s = a.self.now in
    let l = c.loop-t in
    let end : drop l.t-index a.elements.now ≡ [] = drop_of_length-le a.elements.now (omega arith) in
    reaches_end _ s.source.now a.from _ a.target.now l.p l.target (rw end at l.invariant.reaches) l.invariant.in_source
