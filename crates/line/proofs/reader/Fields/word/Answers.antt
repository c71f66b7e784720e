-- Where there is no number there is no word.
use Rattle.std.proofs.Common.{◌≡◌, None, sym, ◌∙◌, rules}
use Rattle.line.specs.Line.{has_digits, eight}
use Rattle.octets.specs.Octets.{part}
use Rattle.hexadecimal.specs.Hex.{number}
use Rattle.line.proofs.Reading.{none_cond}
use Rattle.line.proofs.reader.Fields.word.Goals as goal

pub returns-in_err-number : goal.returns-in_err-number
returns-in_err-number c =
    let s = c.args.self.now in
    let n : c.from_residual.result ≡ None = search rules in
    let m : c.number.result ≡ None = search rules in
    record {
      answer = n ∙ none_cond (has_digits s 8) (number 0 (part 8 1 s)) (eight (number 0 (part 8 1 s))) (sym m ∙ c.number.ensures.answer);
      rest = c.number.ensures.rest;
    }
