-- Eight steps are the entries of the two half octets of the low octet, and the rest moved down.
use Rattle.std.proofs.Common.{ℕ, ◌/◌, ◌∙◌, ap₂}
use lib.Bits.{bit_xor}
use Rattle.fcs.proofs.Halves.{by_two}
use Rattle.fcs.proofs.step.Goals as goal

pub returns : goal.returns
returns c =
    let x : ℕ = c.args.x in
    ap₂ (λ (a b : ℕ). bit_xor (bit_xor a b) (x / 256)) c.entry.ensures c.entry-2.ensures ∙ by_two x
