use Rattle.subscriptions.proofs.Sizes.{told-err}
use Rattle.subscriptions.proofs.Follow.{clock-follows}
use Rattle.subscriptions.proofs.Table.time_check.Goals as goal

pub returns-in_err-t : goal.returns-in_err-t
returns-in_err-t c =
    let e = c.in_err-t.ensures in
    record {
      slots = e.lends.slots;
      store = e.lends.store;
      follows = rw (told-err _ _ _ c.from_residual.ensures.1) (clock-follows c.args.time _ _ _ _ _ _ e.sweeps);
    }

pub returns : goal.returns
returns c =
    let e = c.in_ok-t.ensures in
    record { slots = e.lends.slots; store = e.lends.store; follows = clock-follows c.args.time _ _ _ _ _ _ e.sweeps }
