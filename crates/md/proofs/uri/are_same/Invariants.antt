-- The fields bear the same URI exactly where what is left of them does.
use Rattle.std.proofs.Common.{◌≡◌, length}
use Rattle.md.specs.Uri.{same_uri}
use Rattle.md.proofs.uri.are_same.Given as goal

abbrev pub invariant-loop-x : goal.invariant-loop-x
invariant-loop-x l = same_uri l.u l.v ≡ same_uri l.a l.b

abbrev pub decreases-loop-x : goal.decreases-loop-x
decreases-loop-x l = length l.u
