-- The last field is of another form, or its octets are taken apart.
use Rattle.line.proofs.Fields.{unanswered}
use Rattle.answer.proofs.Said.{answered_by}
use Rattle.scenario_wire.specs.Wire.{take_answer}
use Rattle.scenario_wire.proofs.Wired.{only_none, only_some, header_filled, refusal_filled}
use Rattle.scenario_wire.proofs.take.Goals as goal

pub returns-in_err-n : goal.returns-in_err-n
unfolding take_answer
returns-in_err-n g c =
    unanswered c.args.out.now c.from_residual.ensures
    (only_none _ c.buffer-data.result c.behind.ensures c.buffer-data.ensures.value c.in_err-n.ensures.value)

pub returns-in-Ok : goal.returns-in-Ok
unfolding take_answer
returns-in-Ok g c =
    answered_by
    (only_some _ c.buffer-data.result c.behind.ensures c.buffer-data.ensures.value c.in_ok-n.n c.last.new.target
    c.in_ok-n.ensures.value c.in_ok-n.ensures.target_after)
    (header_filled _ _ c.in-Ok.h c.take.ensures c.in-Ok.is c.put.ensures)

pub returns-in-Err : goal.returns-in-Err
unfolding take_answer
returns-in-Err g c =
    answered_by
    (only_some _ c.buffer-data.result c.behind.ensures c.buffer-data.ensures.value c.in_ok-n.n c.last.new.target
    c.in_ok-n.ensures.value c.in_ok-n.ensures.target_after)
    (refusal_filled _ _ c.in-Err.r c.take.ensures c.in-Err.is c.refused.ensures.1 c.refused.ensures.2)
