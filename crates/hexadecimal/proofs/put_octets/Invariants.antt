-- The loop's invariant: writing the octets that are left completes the writing of all.
use Rattle.std.proofs.Common.{◌≡◌, ◌+◌, ◌*◌, drop}
use Rattle.octets.specs.Octets.{put}
use Rattle.hexadecimal.specs.Hex.{hex_of}
use Rattle.hexadecimal.proofs.put_octets.Given as goal

abbrev pub invariant-loop-i : goal.invariant-loop-i
invariant-loop-i l = put (l.k + 2 * l.i) (hex_of (drop l.i l.s)) l.target ≡ put l.k (hex_of l.s) l.initial.target
