-- A session in use is asked for its identifier.
use Rattle.session.specs.Session.{has}
use Rattle.md.proofs.Texts.{equal-is}
use Rattle.session.proofs.Session.has.Goals as goal

pub returns-then-not-is_free : goal.returns-then-not-is_free
unfolding has
returns-then-not-is_free c =
    rw (← c.is_free.ensures, c.if-not-is_free.true, ← equal-is c.args.self.now.id c.args.id) c.eq.ensures

pub returns-else-not-is_free : goal.returns-else-not-is_free
unfolding has
returns-else-not-is_free c = rw (← c.is_free.ensures, c.if-not-is_free.false)
