-- The loop's invariant: the number begun so far, carried on over the digits that are left, is the whole number, and is
-- below 16 for each digit read.
use Rattle.std.proofs.Common.{◌≡◌, ◌^◌, ◌<◌, drop}
use Rattle.hexadecimal.specs.Hex.{number}
use Rattle.hexadecimal.proofs.number.Given as goal

abbrev pub invariant-loop-x : goal.invariant-loop-x
invariant-loop-x l = (l.c < 16 ^ l.x-index) × (number l.c (drop l.x-index l.s) ≡ number 0 l.s)
