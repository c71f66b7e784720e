-- The loop's invariant: the first i scalars are written.
use Rattle.std.proofs.Common.{◌≡◌, [], ◌∷◌}
use Rattle.octets.specs.Octets.{put}
use Rattle.scalars.specs.Scalars.{array_at}
use Rattle.scalars.proofs.turn_dates.Given as goal

abbrev pub invariant-loop-i : goal.invariant-loop-i
invariant-loop-i l = l.target ≡ put l.p (array_at l.i (4 ∷ 2 ∷ []) l.p l.source) l.initial.target
