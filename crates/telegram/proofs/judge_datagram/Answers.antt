-- A header's refusal comes first.
use Rattle.std.proofs.lemmas.Result.{err_from_is_err_and}
use Rattle.telegram.proofs.Reading.{header-first}
use Rattle.telegram.proofs.judge_datagram.Goals as goal

pub returns-in_err-judge_header : goal.returns-in_err-judge_header
returns-in_err-judge_header c =
    let p = err_from_is_err_and c.from_residual.result c.from_residual.ensures.1 in
    rw (p.1, p.2) (header-first c.args.f c.args.d.now _ c.in_err-judge_header.ensures)
