-- The octets fill the target.
use Rattle.std.proofs.Common.{◌≡◌, ℕ, List, ◌*◌, length, ap, ◌∙◌, arith}
use Rattle.octets.specs.Octets.{part, put}
use Rattle.octets.proofs.Parts.{part_length}
use Rattle.hexadecimal.specs.Hex.{octets_of}
use Rattle.hexadecimal.proofs.Digits.{octets-length}
use Rattle.line.proofs.Reading.{digits_within, put_whole}
use Rattle.line.proofs.reader.Fields.octets.Goals as goal

pub returns-clause-target_after : goal.returns-clause-target_after
returns-clause-target_after c =
    let s : List ℕ = c.args.self.now in
    let target : List ℕ = c.args.target.now in
    let n : ℕ = 2 * length target in
    let d = c.in_ok-digits.ensures.digits in
    let l : length (octets_of (part n 1 s)) ≡ length target =
    octets-length (part n 1 s) ∙ omega (arith, part_length n 1 s (omega (arith, digits_within s n d.0))) in
    rw d.0 (c.decode.ensures
    ∙ ap (λ (x : List ℕ). put 0 (octets_of x) target) d.1
    ∙ put_whole (octets_of (part n 1 s)) target l)
