-- A minus sign and the absolute value, or the number itself.
use Rattle.std.proofs.Common.{◌≡◌, ℤ, pos, true, false, sym, ap, ◌∙◌, subst, to_z-of_z, of_z, to_z, w32}
use lib.Signed.{lt_z}
use Rattle.std.specs.Prelude.{nat_abs}
use Rattle.answer.specs.Answer.{signed}
use Rattle.answer.proofs.Rooms.{filled_as, ◌▹◌}
use Rattle.answer.proofs.Decimals.{negative, not_negative}
use Rattle.answer.proofs.Room.signed.Goals as goal

pub returns-then-x-lt0 : goal.returns-then-x-lt0
returns-then-x-lt0 c =
    let x : ℤ = c.args.x in
    let r : to_z w32 (of_z w32 x) ≡ x = to_z-of_z c.ranges.x in
    let h : lt_z x (pos 0) ≡ true = subst (λ (z : ℤ). lt_z z (pos 0) ≡ true) r c.if-x-lt0.true in
    let e = negative x c.from.result h (c.from.ensures ∙ c.unsigned_abs.ensures.value ∙ ap nat_abs r) in
    filled_as (signed x) (sym e) (c.text.ensures ▹ c.digits.ensures)

pub returns-else-x-lt0 : goal.returns-else-x-lt0
returns-else-x-lt0 c =
    let x : ℤ = c.args.x in
    let r : to_z w32 (of_z w32 x) ≡ x = to_z-of_z c.ranges.x in
    let h : lt_z x (pos 0) ≡ false = subst (λ (z : ℤ). lt_z z (pos 0) ≡ false) r c.if-x-lt0.false in
    let e = not_negative x c.from-else-x-lt0.result h (c.from-else-x-lt0.ensures ∙ c.unsigned_abs-else-x-lt0.ensures.value ∙ ap nat_abs r) in
    filled_as (signed x) (sym e) c.decimal.ensures
