-- The pieces one after the other.
use Rattle.answer.proofs.Rooms.{◌▹◌}
use Rattle.listing.proofs.Outcome.put.Goals as goal

pub returns-in-Refused : goal.returns-in-Refused
returns-in-Refused c =
    rw c.in-Refused.is
    (c.digits.ensures ▹ (rw c.refused.ensures.1 at c.refused.ensures.2) ▹ c.text-in-Refused.ensures)

pub returns-in-BadLine : goal.returns-in-BadLine
returns-in-BadLine c = rw c.in-BadLine.is (c.digits.ensures ▹ c.text-in-BadLine.ensures)
