-- Sizes, then a slot in use, which is freed.
use Rattle.std.proofs.Common.{refl, sym, ◌∙◌}
use Rattle.subscriptions.proofs.Sizes.{fitting, part-in, unfit-follows, told-err}
use Rattle.subscriptions.proofs.Slot.{used-there, unsubscribed-follows, unused-follows}
use Rattle.subscriptions.proofs.Table.unsubscribe.Goals as goal

pub returns-in_err-judge_sizes : goal.returns-in_err-judge_sizes
returns-in_err-judge_sizes c =
    record {
      slots = refl;
      store = refl;
      follows = rw (told-err _ _ _ c.from_residual.ensures.1)
          (unfit-follows _ _ _ _ (sym c.judge_sizes.ensures ∙ c.in_err-judge_sizes.was));
    }

pub returns-then-not-is_used : goal.returns-then-not-is_used
returns-then-not-is_used c =
    let f = fitting _ _ (sym c.judge_sizes.ensures ∙ c.in_ok-judge_sizes.was) in
    let u = sym c.is_used.ensures ∙ c.if-not-is_used.true in
    record { slots = refl; store = refl; follows = unused-follows _ _ c.args.k f u }

pub renew-requires-clause-part : goal.renew-requires-clause-part
renew-requires-clause-part c =
    let f = fitting _ _ (sym c.judge_sizes.ensures ∙ c.in_ok-judge_sizes.was) in
    let u = sym c.is_used.ensures ∙ c.if-not-is_used.false in
    part-in _ _ _ f (used-there _ c.args.k u)

pub returns : goal.returns
returns c =
    let e = c.renew.ensures in
    let f = fitting _ _ (sym c.judge_sizes.ensures ∙ c.in_ok-judge_sizes.was) in
    let u = sym c.is_used.ensures ∙ c.if-not-is_used.false in
    record {
      slots = e.lends.slots;
      store = e.lends.store;
      follows = rw (e.slots, e.store, c.free.ensures) (unsubscribed-follows _ _ c.args.k f u);
    }
