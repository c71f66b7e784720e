-- Single octets are copied, and scalars of four octets twice are an array of twice as many numbers.
use Rattle.std.proofs.Common.{ℕ, List, sym, ap, ◌∙◌, arith}
use native.Mathlib.Nat.{add-sub_cancel_left}
use Rattle.octets.specs.Octets.{part, put}
use Rattle.scalars.proofs.Arrays.{array-none, array-octets, array-twice}
use Rattle.scalars.proofs.Shape.turn.Goals as goal

pub returns-in-Empty : goal.returns-in-Empty
returns-in-Empty c = let a = c.args in rw c.in-Empty.is (array-none a.n a.p a.source.now a.target.now)

pub returns-in-One : goal.returns-in-One
returns-in-One c =
    let a = c.args in
    let s : List ℕ = a.source.now in
    let h = rw c.in-One.is at c.requires in
    rw c.in-One.is
    (c.copy_into.ensures
    ∙ ap (λ (m : ℕ). put a.p (part m a.p s) a.target.now) (add-sub_cancel_left a.p a.n)
    ∙ ap (λ (l : List ℕ). put a.p l a.target.now) (sym (array-octets a.n a.p s (omega arith))))

pub returns-in-FourFour : goal.returns-in-FourFour
returns-in-FourFour c =
    let a = c.args in
    rw c.in-FourFour.is
    (c.turn_numbers-in-FourFour.ensures
    ∙ ap (λ (l : List ℕ). put a.p l a.target.now) (array-twice a.n a.p a.source.now))
