use Rattle.std.proofs.Common.{sym, ◌∙◌}
use Rattle.std.proofs.lemmas.Result.{err_from_is_err_and}
use Rattle.subscription_decisions.proofs.Judging.{taken_refused, not-local, let_in}
use Rattle.subscription_decisions.proofs.judge.Goals as goal

pub returns-in_err-common : goal.returns-in_err-common
returns-in_err-common c =
    let q = err_from_is_err_and c.from_residual.result c.from_residual.ensures.1 in
    rw (q.1, q.2) (taken_refused c.args.a c.args.datagram.now _ (sym c.take.ensures ∙ c.in_err-common.was))

pub returns-then-not-is_local : goal.returns-then-not-is_local
returns-then-not-is_local c =
    let e = sym c.take.ensures ∙ c.in_ok-common.was in
    not-local c.args.a c.args.datagram.now _ e (sym c.is_local.ensures ∙ c.if-not-is_local.true)

pub returns : goal.returns
returns c =
    let e = sym c.take.ensures ∙ c.in_ok-common.was in
    let_in c.args.a c.args.datagram.now _ e (sym c.is_local.ensures ∙ c.if-not-is_local.false)
