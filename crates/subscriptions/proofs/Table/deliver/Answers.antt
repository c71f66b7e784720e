-- Sizes, then the first refusal of 2 to 7, then every slot.
use Rattle.std.proofs.Common.{refl, sym, ◌∙◌}
use Rattle.subscription_decisions.proofs.Delivering.{delivers_is}
use Rattle.subscriptions.proofs.Sizes.{fitting, unfit-follows, told-err}
use Rattle.subscriptions.proofs.Follow.{refused-telegram-follows, telegram-follows}
use Rattle.subscriptions.proofs.Table.deliver.Goals as goal

pub returns-in_err-judge_sizes : goal.returns-in_err-judge_sizes
returns-in_err-judge_sizes c =
    record {
      slots = refl;
      store = refl;
      follows = rw (told-err _ _ _ c.from_residual.ensures.1)
          (unfit-follows _ _ _ _ (sym c.judge_sizes.ensures ∙ c.in_err-judge_sizes.was));
    }

pub returns-in_err-passed : goal.returns-in_err-passed
returns-in_err-passed c =
    let f = fitting _ _ (sym c.judge_sizes.ensures ∙ c.in_ok-judge_sizes.was) in
    record {
      slots = refl;
      store = refl;
      follows = rw (told-err _ _ _ c.from_residual-in_err-passed.ensures.1)
          (refused-telegram-follows _ _ _ _ _ f c.in_err-passed.ensures);
    }

pub returns : goal.returns
returns c =
    let e = c.sweep.ensures in
    record {
      slots = e.lends.slots;
      store = e.lends.store;
      follows = rw (delivers_is _ _ c.delivered.ensures) (telegram-follows _ _ _ _ _ _ _ _ _ (sym c.in_ok-passed.ensures) e.sweeps);
    }
