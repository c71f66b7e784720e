-- Each type follows its rule.
use mathlib.Core.Path.{◌≡◌, sym, subst, ◌∙◌}
use mathlib.Core.Logic.{◌⊎◌}
use Rattle.session.specs.declared.Kind.{Kind}
use Rattle.session.specs.declared.Kind.TheVariants.{Mp, Me}
use Rattle.session.specs.Session.{kind_of}
use Rattle.messages.specs.Arriving.{heard_by}
use Rattle.messages.proofs.Arrived.{by_reply, by_confirm, by_mq}
use Rattle.messages.proofs.Message.follow.Goals as goal

pub returns-in-Mp : goal.returns-in-Mp
returns-in-Mp c =
    let a = c.args in
    by_reply a.octets.now (heard_by a.self.now) _ _ _ (kind_of a.self.now.msg_type)
    (subst (λ (k : Kind). (k ≡ Mp) ⊎ (k ≡ Me)) c.from.ensures c.in-Mp.is) c.free.result c.free.ensures c.take.ensures

pub returns-in-Mq : goal.returns-in-Mq
returns-in-Mq c =
    let a = c.args in
    by_mq a.octets.now (heard_by a.self.now) _ _ _ (kind_of a.self.now.msg_type) (sym c.from.ensures ∙ c.in-Mq.is)
    c.owing.result c.owing.ensures c.take-in-Mq.ensures

pub returns-in-Mc : goal.returns-in-Mc
returns-in-Mc c =
    let a = c.args in
    by_confirm a.octets.now (heard_by a.self.now) _ _ _ (kind_of a.self.now.msg_type) (sym c.from.ensures ∙ c.in-Mc.is)
    c.free-in-Mc.result c.free-in-Mc.ensures c.take-in-Mc.ensures
