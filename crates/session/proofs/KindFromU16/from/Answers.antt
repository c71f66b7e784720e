-- The numbers are asked for in the order of the definition.
use native.Mathlib.Omega.{arith}
use Rattle.std.proofs.lemmas.Bool.Decides.{nat_tests}
use Rattle.session.specs.Session.{kind_of}
use Rattle.session.proofs.KindFromU16.from.Goals as goal

pub returns-in-19822 : goal.returns-in-19822
unfolding kind_of
returns-in-19822 c = grind (arith, nat_tests)

pub returns-in-19826 : goal.returns-in-19826
unfolding kind_of
returns-in-19826 c = grind (arith, nat_tests)

pub returns-in-19824 : goal.returns-in-19824
unfolding kind_of
returns-in-19824 c = grind (arith, nat_tests)

pub returns-in-19825 : goal.returns-in-19825
unfolding kind_of
returns-in-19825 c = grind (arith, nat_tests)

pub returns-in-19811 : goal.returns-in-19811
unfolding kind_of
returns-in-19811 c = grind (arith, nat_tests)

pub returns-in_default : goal.returns-in_default
unfolding kind_of
returns-in_default c = grind (arith, nat_tests)
