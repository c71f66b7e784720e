-- Check, dataset and padding are written one behind the other, after what the target begins with.
use mathlib.Core.List.{List, ◌++◌}
use mathlib.Core.Path.{◌≡◌, refl, ap, ◌∙◌}
use Prim.Native.Nat.{ℕ, ◌+◌, ◌-◌}
use native.Mathlib.Omega.{arith}
use lib.ListN.{length, take, replicate, length-replicate}
use Rattle.fcs.specs.Fcs.{crc32}
use Rattle.telegram.specs.Telegram.{padded}
use Rattle.octets.proofs.Puts.{kept, next}
use Rattle.octets.specs.Octets.{little_of, put}
use Rattle.telegram.proofs.finish.Goals as goal

pub returns : goal.returns
returns c =
    let a = c.args in
    let o : List ℕ = a.target.now in
    let s : List ℕ = a.dataset.now in
    let front : List ℕ = take a.at o in
    let zeros : List ℕ = replicate (c.padded_length.result - length s) 0 in
    let z : a.at + 4 + length s + length zeros ≡ a.at + 4 + padded (length s) = simp length-replicate (omega arith) in
    let w1 =
    next (kept o a.at (omega arith)) (little_of 4 c.frame_check-check.result) (a.at + 4) refl c.put_little.ensures in
    let w2 = next w1 s (a.at + 4 + length s) refl c.copy_into.ensures in
    let w3 = next w2 zeros (a.at + 4 + padded (length s)) z c.clear_part.ensures in
    w3.holds
    ∙ ap (λ (x : ℕ). put 0 (front ++ little_of 4 x ++ s ++ zeros) o) c.frame_check-check.ensures
    ∙ ap (λ (x : ℕ). put 0 (front ++ little_of 4 (crc32 front) ++ s ++ replicate (x - length s) 0) o)
    c.padded_length.ensures
