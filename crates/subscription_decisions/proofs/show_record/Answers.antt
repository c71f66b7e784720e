use Rattle.std.proofs.Common.{sym, ◌∙◌}
use Rattle.subscription_decisions.proofs.Showing.{record-shows}
use Rattle.subscription_decisions.proofs.show_record.Goals as goal

pub returns-in-Ok : goal.returns-in-Ok
returns-in-Ok c =
    let x = c.args in
    c.show.ensures
    ∙ record-shows x.slots x.k x.r.now x.substitute.now x.store.now _ (sym c.read_record.ensures ∙ c.in-Ok.is)
