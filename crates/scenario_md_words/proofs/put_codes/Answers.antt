-- Each code is put behind those before it.
use Rattle.std.proofs.Common.{rules, ◌≡◌, sym, ap, ◌∙◌, ℤ, ◌++◌, append-nil, append_assoc, arith, get_or, take, length, pos, to_z, of_z, w32}
use mir.Facts.{to_z-of_z}
use Rattle.std.proofs.lemmas.List.{take_all}
use Rattle.answer.specs.Answer.{word, signed}
use Rattle.answer.proofs.Rooms.{◌▹◌, filled_as}
use Rattle.scenario_md_words.specs.Words.{all_signed}
use Rattle.scenario_md_words.proofs.Codes.{one-more}
use Rattle.scenario_md_words.proofs.put_codes.Goals as goal

pub loop-code-init : goal.loop-code-init
loop-code-init c = filled_as _ (sym (append-nil (word "codes"))) c.word.ensures

pub loop-code-preserved : goal.loop-code-preserved
loop-code-preserved c =
    let cs = c.args.codes in
    let i = c.loop-code.code-index in
    let l : length cs ≡ 16 = search rules in
    let x : ℤ = get_or cs i (pos 0) in
    let e : to_z w32 (of_z w32 x) ≡ x = to_z-of_z {w = w32} (search rules) in
    filled_as _
    (ap (λ (z : ℤ). (word "codes" ++ all_signed (take i cs)) ++ signed z) e
    ∙ append_assoc (word "codes") (all_signed (take i cs)) (signed x)
    ∙ ap (λ (s : _). word "codes" ++ s) (sym (one-more cs i (pos 0) (omega arith))))
    (c.loop-code.invariant ▹ c.signed.ensures)

pub returns : goal.returns
returns c =
    let cs = c.args.codes in
    let l : length cs ≡ 16 = search rules in
    filled_as _ (ap (λ (s : _). word "codes" ++ all_signed s) (take_all _ cs (omega arith))) c.loop-code.invariant
