-- The loops' invariants: what is left to walk from the place on does what the whole walk does.
-- Between two calls a level is left behind.
use Rattle.std.proofs.Common.{◌≡◌, ◌+◌, ◌-◌, ◌*◌, ◌≤◌, length, drop, map}
use Rattle.std.proofs.Common.{None}
use Rattle.dataset.specs.Descriptions.{element_of}
use Rattle.dataset.specs.Walk.{times, walk_of, nested_of}
use denote.Param.{number}
use Rattle.dataset.specs.contracts.Walk.datasets.{WRITE-type}
use Rattle.dataset.proofs.Steps.{Reaches}
use Rattle.dataset.proofs.Walk.+walk.Given as goal

abbrev pub decreases-datasets : goal.decreases-datasets
decreases-datasets g l = 2 * l.self.now.levels

abbrev pub decreases-dataset : goal.decreases-dataset
decreases-dataset g l = 2 * l.self.now.levels + 1

abbrev pub invariant-datasets-loop : goal.invariant-datasets-loop
invariant-datasets-loop g l = record {
  in_source : l.p ≤ length l.self.source.now;
  same_length : length l.target ≡ length l.initial.target;
  reaches : Reaches (nested_of l.self.levels l.self.form l.self.run.now l.id l.n (drop l.from l.self.source.now))
      l.self.source.now l.from (WRITE-type (number g.row.WRITE)) l.initial.target
      (times (l.n - l.counter)
      (walk_of l.self.form (nested_of (l.self.levels - 1) l.self.form l.self.run.now) (map element_of l.elements) None)
      (drop l.p l.self.source.now)) l.p l.target;
}

abbrev pub invariant-dataset-loop-t : goal.invariant-dataset-loop-t
invariant-dataset-loop-t g l = record {
  in_source : l.p ≤ length l.self.source.now;
  same_length : length l.target ≡ length l.initial.target;
  reaches : Reaches
      (walk_of l.self.form (nested_of l.self.levels l.self.form l.self.run.now) (map element_of l.elements) None
      (drop l.from l.self.source.now))
      l.self.source.now l.from (WRITE-type (number g.row.WRITE)) l.initial.target
      (walk_of l.self.form (nested_of l.self.levels l.self.form l.self.run.now)
      (map element_of (drop l.t-index l.elements)) l.before (drop l.p l.self.source.now)) l.p l.target;
}
