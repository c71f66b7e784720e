use Rattle.std.proofs.Common.{ℕ, suc, ◌≡◌, ◌+◌, ◌-◌, ◌/◌, set, ap, ◌∙◌, arith}
use Rattle.octets.specs.Octets.{put}
use Rattle.hexadecimal.specs.Hex.{digits_of}
use Rattle.hexadecimal.proofs.Written.{digits_more}
use Rattle.hexadecimal.proofs.put_number.Goals as goal

pub loop-i-preserved : goal.loop-i-preserved
loop-i-preserved c =
    let l = c.loop-i in
    let k : ℕ = c.args.k in
    let j : ℕ = l.i - 1 in
    let e : suc j ≡ l.i = omega arith in
    ap (λ (y : ℕ). put k (digits_of j (l.rest / 16)) (set l.target (k + j) y)) c.capital.ensures
    ∙ digits_more k j l.rest l.target (omega arith)
    ∙ ap (λ (m : ℕ). put k (digits_of m l.rest) l.target) e
    ∙ l.invariant
