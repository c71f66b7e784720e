-- What the opening answers and wrote.
use Rattle.sessions.proofs.Answers.{called}
use Rattle.sessions.proofs.call.Goals as goal

pub returns : goal.returns
returns c =
    let a = c.args in
    called a.id a.timeout a.time a.octets.now _ c.open.result c.open.ensures
