-- The loop's invariant: below k the sessions and codes are those after the check, from k on the sessions are as they
-- were.
use mathlib.Core.Path.{◌≡◌, refl, ◌∙◌}
use native.Mathlib.Omega.{arith}
use mir.Val.{to_z, of_z}
use mir.Syntax.{w32}
use borrow.Author.Rules.{rules}
use Rattle.sessions.proofs.Checking.{turned_none, turned_more, turned-all}
use Rattle.sessions.proofs.time_check.Goals as goal

pub loop-k-init : goal.loop-k-init
loop-k-init c = turned_none _ _ _ refl

pub loop-k-preserved : goal.loop-k-preserved
loop-k-preserved c =
    let l = c.loop-k in
    let a = c.args in
    let z : to_z w32 (of_z w32 c.expire.result) ≡ c.expire.result = search rules in
    turned_more a.time a.octets.now _ refl l.octets _ l.codes l.k _ (omega arith) l.invariant
    (z ∙ c.expire.ensures.code) c.expire.ensures.expires

pub returns : goal.returns
returns c =
    let l = c.loop-k in
    let a = c.args in
    turned-all a.time a.octets.now _ refl l.octets l.codes l.k (omega arith) (omega arith) l.invariant
