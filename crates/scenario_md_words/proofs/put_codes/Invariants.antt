-- The codes so far are put, behind the word.
use Rattle.std.proofs.Common.{◌++◌, take}
use Rattle.answer.specs.Answer.{word}
use Rattle.answer.specs.Lent.{Fills}
use Rattle.scenario_md_words.specs.Words.{all_signed}
use Rattle.scenario_md_words.proofs.put_codes.Given as goal

abbrev pub invariant-loop-code : goal.invariant-loop-code
invariant-loop-code l = Fills (word "codes" ++ all_signed (take l.code-index l.code-items)) l.fn.out l.out
