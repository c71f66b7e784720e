-- What a search answers.
use Rattle.std.specs.Prelude.{ℕ, Option, Some, None}
use Rattle.std.proofs.Math.Option as math

-- the slot that was found, or none
abbrev pub found_of : math.Option ℕ → Option ℕ
found_of math.none = None
found_of (math.some k) = Some k
