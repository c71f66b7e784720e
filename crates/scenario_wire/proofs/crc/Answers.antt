-- The last field is of another form, or its octets are checked.
use Rattle.line.proofs.Fields.{unanswered}
use Rattle.answer.proofs.Rooms.{◌▹◌}
use Rattle.answer.proofs.Said.{answered_by}
use Rattle.scenario_wire.specs.Wire.{crc_answer}
use Rattle.scenario_wire.proofs.Wired.{only_none, only_some, crc_filled}
use Rattle.scenario_wire.proofs.crc.Goals as goal

pub returns-in_err-n : goal.returns-in_err-n
unfolding crc_answer
returns-in_err-n c =
    unanswered c.args.out.now c.from_residual.ensures
    (only_none _ c.buffer-data.result c.behind.ensures c.buffer-data.ensures.value c.in_err-n.ensures.value)

pub returns : goal.returns
unfolding crc_answer
returns c =
    answered_by
    (only_some _ c.buffer-data.result c.behind.ensures c.buffer-data.ensures.value c.in_ok-n.n c.last.new.target
    c.in_ok-n.ensures.value c.in_ok-n.ensures.target_after)
    (crc_filled _ c.frame_check.ensures (c.word.ensures ▹ c.number.ensures))
