-- The loop's invariant: writing the digits that are left completes the writing of all.
use Rattle.std.proofs.Common.{◌≡◌}
use Rattle.octets.specs.Octets.{put}
use Rattle.hexadecimal.specs.Hex.{digits_of}
use Rattle.hexadecimal.proofs.put_number.Given as goal

abbrev pub invariant-loop-i : goal.invariant-loop-i
invariant-loop-i l = put l.k (digits_of l.i l.rest) l.target ≡ put l.k (digits_of l.n l.x) l.initial.target
