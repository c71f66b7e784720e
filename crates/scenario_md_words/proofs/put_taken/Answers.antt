-- The pieces one after the other.
use Rattle.std.proofs.Common.{rules, ap, ◌++◌, ℤ, w32}
use mir.Facts.{to_z-of_z}
use mir.Val.{to_z, of_z}
use Rattle.std.proofs.Common.{◌≡◌}
use Rattle.octets.specs.Octets.{unsigned}
use Rattle.answer.specs.Answer.{word, number, decimal}
use Rattle.answer.proofs.Rooms.{◌▹◌, filled_as}
use Rattle.scenario_md_words.proofs.put_taken.Goals as goal

pub returns : goal.returns
returns c =
    let e : to_z w32 (of_z w32 c.args.status) ≡ c.args.status = to_z-of_z {w = w32} (search rules) in
    filled_as _
    (ap (λ (x : ℤ). word "taken" ++ number 8 (unsigned x) ++ decimal c.args.session) e)
    (c.word.ensures ▹ c.put_status.ensures ▹ c.decimal.ensures)
