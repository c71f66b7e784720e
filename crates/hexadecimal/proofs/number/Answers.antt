use Rattle.std.proofs.Common.{ℕ, List, ◌≡◌, ◌+◌, ◌*◌, ◌<◌, get_or, drop, ap, ◌∙◌, arith}
use Rattle.hexadecimal.specs.Hex.{digit, number}
use Rattle.hexadecimal.proofs.Digits.{hex-at, number_more, digit-more, digit-fits}
use Rattle.hexadecimal.proofs.number.Goals as goal

pub overflow_mul-c : goal.overflow_mul-c
overflow_mul-c c =
    let l = c.loop-x in
    omega (arith, digit-fits l.c 0 l.x-index (omega arith) l.invariant.0 (omega arith))

pub overflow_add-c : goal.overflow_add-c
overflow_add-c c =
    let l = c.loop-x in
    let s : List ℕ = c.args.s.now in
    let d : c.from.result ≡ digit (get_or s l.x-index 0) = c.from.ensures ∙ c.value.ensures in
    let b : c.from.result < 16 = omega (arith, hex-at s l.x-index c.requires.s_value (omega arith)) in
    omega (arith, digit-fits l.c c.from.result l.x-index (omega arith) l.invariant.0 b)

pub loop-x-preserved : goal.loop-x-preserved
loop-x-preserved c =
    let l = c.loop-x in
    let s : List ℕ = c.args.s.now in
    let d : c.from.result ≡ digit (get_or s l.x-index 0) = c.from.ensures ∙ c.value.ensures in
    let b : c.from.result < 16 = omega (arith, hex-at s l.x-index c.requires.s_value (omega arith)) in (
      digit-more l.c c.from.result l.x-index l.invariant.0 b,
      ap (λ (x : ℕ). number (16 * l.c + x) (drop (l.x-index + 1) s)) d
          ∙ number_more s l.c l.x-index (omega arith) l.invariant.1,
    )
