-- 8 digits fit 32 bits.
use mathlib.Core.Path.{◌≡◌, ap, ◌∙◌}
use Prim.Native.Nat.{ℕ, ◌+◌, ◌-◌, ◌≤◌}
use native.Mathlib.Nat.{add-sub_cancel_left}
use native.Mathlib.Omega.{arith}
use lib.ListN.{length, take, drop, length-take}
use Rattle.octets.specs.Octets.{part}
use Rattle.hexadecimal.specs.Hex.{number}
use Rattle.capture.specs.Frame.{number_at}
use Rattle.capture.proofs.Frames.{word_fits}
use Rattle.capture.proofs.word_at.Goals as goal

pub overflow_cast-result : goal.overflow_cast-result
overflow_cast-result c =
    let a = c.args in
    let m : a.at + 8 - a.at ≡ 8 = add-sub_cancel_left a.at 8 in
    let v : c.number.result ≡ number_at 8 a.at a.s.now =
    c.number.ensures ∙ ap (λ (k : ℕ). number 0 (take k (drop a.at a.s.now))) m in
    let l : length (part 8 a.at a.s.now) ≤ 8 = simp length-take (omega arith) in
    omega (arith, word_fits (part 8 a.at a.s.now) c.requires.s_value l)
