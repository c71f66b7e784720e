-- What the table answers is what the words say.
use Rattle.std.proofs.Common.{rules}
use Rattle.answer.proofs.Rooms.{◌▹◌, filled_as}
use Rattle.lent.specs.Lent.{lent_of}
use Rattle.scenario_pd_look.proofs.Shown.{lends, shows, refuses}
use Rattle.scenario_pd_look.proofs.put_read.Goals as goal

pub returns-in-Ok : goal.returns-in-Ok
returns-in-Ok c =
    let a = c.args in
    let lent = lends a.t.now a.store.now c.min.result c.min-2.result (search rules) (search rules) in
    filled_as _ (shows a.k a.substitute.now (lent_of a.t.now a.store.now) lent c.in-Ok.v c.in-Ok.ensures c.show.ensures)
    (c.put_state.ensures ▹ c.octets.ensures)

pub returns-in-Err : goal.returns-in-Err
returns-in-Err c =
    let a = c.args in
    filled_as _ (refuses a.k a.substitute.now (lent_of a.t.now a.store.now) c.in-Err.r c.in-Err.ensures)
    (rw c.refused.ensures.1 at c.refused.ensures.2)
