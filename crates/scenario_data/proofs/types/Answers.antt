-- A line of another form, octets that are no run, or a run.
use Rattle.std.proofs.Common.{List, ℕ, refl, sym, ◌∙◌, take}
use Rattle.line.proofs.Fields.{last_none, last_some}
use Rattle.answer.proofs.Said.{answered_by}
use Rattle.scenario_data.specs.Data.{types_said, run_said}
use Rattle.scenario_data.proofs.Described.{run_is_said, run_is_bad, describes_none}
use Rattle.scenario_data.proofs.types.Goals as goal

pub returns-in_err-n : goal.returns-in_err-n
unfolding types_said
returns-in_err-n c =
    let b = c.buffer-data in
    describes_none c.from_residual.ensures
    (rw (
      ← c.behind.ensures,
      last_none c.behind.result (run_said c.args.run.now) b.result b.ensures.value
          c.in_err-n.ensures.value,
    ))

pub returns-then-not-is_run : goal.returns-then-not-is_run
unfolding types_said
returns-then-not-is_run c =
    let run = c.args.run.now in
    let b = c.buffer-data in
    let d : List ℕ = take c.in_ok-n.n c.last.new.target in
    describes_none refl
    (rw (
      ← c.behind.ensures,
      last_some c.behind.result (run_said run) c.in_ok-n.n b.result c.last.new.target
          b.ensures.value c.in_ok-n.ensures.value c.in_ok-n.ensures.target_after,
    )
    (run_is_bad run d c.in_ok-n.n c.in_ok-n.ensures.prefix_len.1 (sym c.is_run.ensures ∙ c.if-not-is_run.true)))

pub returns : goal.returns
unfolding types_said
returns c =
    let run = c.args.run.now in
    let b = c.buffer-data in
    let d : List ℕ = take c.in_ok-n.n c.last.new.target in
    rw (
      ← c.behind.ensures,
      last_some c.behind.result (run_said run) c.in_ok-n.n b.result c.last.new.target
          b.ensures.value c.in_ok-n.ensures.value c.in_ok-n.ensures.target_after,
      run_is_said run d c.in_ok-n.n c.in_ok-n.ensures.prefix_len.1 (sym c.is_run.ensures ∙ c.if-not-is_run.false),
    )
    (record { words = answered_by refl c.word.ensures; counted = refl; lent = c.fill.ensures })
