-- A datagram that is taken apart has its identifier and URI fields.
use Rattle.boundary.proofs.MdDatagram.take.Goals as goal

pub returns-in-Ok : goal.returns-in-Ok
returns-in-Ok c = rw (← c.take.ensures, c.in-Ok.is, c.session_id.ensures, c.array.ensures, c.array-in-Ok.ensures)
