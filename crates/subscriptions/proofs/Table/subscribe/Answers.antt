-- Sizes, then 11 to 13, then the lowest free slot.
use Rattle.std.proofs.Common.{refl, sym, ◌∙◌}
use Rattle.subscription_table.specs.Slot.{Request}
use Rattle.subscriptions.proofs.Sizes.{fitting, part-in, unfit-follows, told-err}
use Rattle.subscriptions.proofs.Granting.{refused-follows, granted-there, granted-follows}
use Rattle.subscriptions.proofs.Table.subscribe.Goals as goal

pub returns-in_err-judge_sizes : goal.returns-in_err-judge_sizes
returns-in_err-judge_sizes c =
    record {
      slots = refl;
      store = refl;
      follows = rw (told-err _ _ _ c.from_residual.ensures.1)
          (unfit-follows _ _ _ _ (sym c.judge_sizes.ensures ∙ c.in_err-judge_sizes.was));
    }

pub returns-in_err-k : goal.returns-in_err-k
returns-in_err-k c =
    let a = c.args in
    let f = fitting _ _ (sym c.judge_sizes.ensures ∙ c.in_ok-judge_sizes.was) in
    let q : Request = record { filter = a.f; timeout = a.timeout; behaviour = a.behaviour } in
    record {
      slots = refl;
      store = refl;
      follows = rw (told-err _ _ _ c.from_residual-in_err-k.ensures.1)
          (refused-follows q a.time _ _ f _ (sym c.free_slot.ensures ∙ c.in_err-k.was));
    }

pub renew-requires-clause-part : goal.renew-requires-clause-part
renew-requires-clause-part c =
    let a = c.args in
    let f = fitting _ _ (sym c.judge_sizes.ensures ∙ c.in_ok-judge_sizes.was) in
    let q : Request = record { filter = a.f; timeout = a.timeout; behaviour = a.behaviour } in
    part-in _ _ _ f (granted-there q a.time _ _ f _ (sym c.free_slot.ensures ∙ c.in_ok-k.was))

pub returns : goal.returns
returns c =
    let a = c.args in
    let e = c.renew.ensures in
    let f = fitting _ _ (sym c.judge_sizes.ensures ∙ c.in_ok-judge_sizes.was) in
    let q : Request = record { filter = a.f; timeout = a.timeout; behaviour = a.behaviour } in
    record {
      slots = e.lends.slots;
      store = e.lends.store;
      follows = rw (e.slots, e.store, c.granted.ensures)
          (granted-follows q a.time _ _ f _ (sym c.free_slot.ensures ∙ c.in_ok-k.was));
    }
