-- The digits are those of the number.
use Rattle.std.proofs.Common.{◌≡◌, ℕ, List, [], ◌∷◌, take, ap, ◌∙◌, rules}
use Rattle.answer.specs.Answer.{decimal_of}
use Rattle.answer.proofs.Rooms.{filled_as}
use Rattle.answer.proofs.Decimals.{decimal-is}
use Rattle.answer.proofs.Room.digits.Goals as goal

pub returns : goal.returns
returns c =
    let a = c.args in
    let d = c.decimal-n.ensures in
    let e : take c.decimal-n.result c.decimal-n.new.out ≡ decimal_of a.x = d.digits ∙ decimal-is a.x c.decimal-n.result (search rules) d.len in
    filled_as (decimal_of a.x ∷ []) (ap (λ (s : List ℕ). s ∷ []) e) c.text.ensures
