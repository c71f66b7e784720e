-- The pieces one after the other.
use Rattle.answer.proofs.Rooms.{◌▹◌}
use Rattle.listing.proofs.Totals.put.Goals as goal

pub returns : goal.returns
returns c =
    c.text.ensures
    ▹ c.decimal.ensures
    ▹ c.word.ensures
    ▹ c.decimal-2.ensures
    ▹ c.word-2.ensures
    ▹ c.decimal-3.ensures
    ▹ c.text-2.ensures
