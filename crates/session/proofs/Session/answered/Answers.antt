-- Mp by its number.
use Rattle.session.specs.Session.{kind_of}
use native.Mathlib.Omega.{arith}
use Rattle.std.proofs.lemmas.Bool.Decides.{nat_tests}
use Rattle.session.proofs.Session.answered.Goals as goal

pub returns-in-Mp : goal.returns-in-Mp
unfolding kind_of
returns-in-Mp c = grind (arith, nat_tests)

pub returns-in_default : goal.returns-in_default
unfolding kind_of
returns-in_default c = grind (arith, nat_tests)
