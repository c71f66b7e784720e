use Rattle.std.proofs.Common.{ℕ, List, ◌≡◌, ◌+◌, ◌*◌, ◌<◌, length, get_or, set, sym, ap₂, ◌∙◌, arith}
use Rattle.octets.proofs.Parts.{over-more}
use Rattle.hexadecimal.specs.Hex.{octets_of}
use Rattle.hexadecimal.proofs.Written.{put-over}
use Rattle.hexadecimal.proofs.Digits.{hex-at, octets-at, octets-length}
use Rattle.hexadecimal.proofs.decode.Goals as goal

pub joined-requires : goal.joined-requires
joined-requires c =
    let d : List ℕ = c.args.digits.now in
    let i : ℕ = c.loop-i.i in (
      hex-at d (2 * i) c.requires.digits_value (omega arith),
      hex-at d (2 * i + 1) c.requires.digits_value (omega arith),
    )

pub loop-i-preserved : goal.loop-i-preserved
loop-i-preserved c =
    let l = c.loop-i in
    let d : List ℕ = c.args.digits.now in
    let h : 2 * l.i + 1 < length d = omega arith in
    let o : c.joined.result ≡ get_or (octets_of d) l.i 0 = c.joined.ensures ∙ sym (octets-at d l.i h) in
    ap₂ (λ (u : List ℕ) (x : ℕ). set u l.i x) l.invariant o
    ∙ over-more (octets_of d) c.args.target.now l.i (omega (arith, octets-length d)) (omega arith)

pub returns : goal.returns
returns c =
    let d : List ℕ = c.args.digits.now in
    c.loop-i.invariant ∙ put-over (octets_of d) c.args.target.now c.loop-i.i (omega (arith, octets-length d))
