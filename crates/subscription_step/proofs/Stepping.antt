-- A slot's step, from whether it changes.
-- Assumes nothing.
use mathlib.Core.Path.{◌≡◌, refl}
use mathlib.Core.List.{List}
use mathlib.Core.Bool.{Bool, true, false, ◌&&◌}
use lib.Dec.{leb}
use Prim.Native.Nat.{ℕ, ◌≤◌}
use native.Mathlib.Omega.{arith}
use native.Mathlib.Nat.{add-zero}
use lib.ListN.{length}
use Rattle.subscription_step.specs.declared.Event.TheVariants.{Telegram, Clock}
use Rattle.subscription_step.specs.declared.Event.{Event}
use Rattle.subscription.specs.declared.Subscription.{Subscription}
use Rattle.subscription_step.specs.declared.Tally.{Tally}
use Rattle.subscription_step.specs.Step.{concerns, one, reaches, changes, record_after, part_after, tallied}

pub one-small : (b : Bool) → one b ≤ 1
one-small true = omega arith
one-small false = omega arith

-- ---- a slot that an event does not concern stays as it is, and is not counted

and-false : (b : Bool) → b && false ≡ false
and-false true = refl
and-false false = refl

unconcerned : (ev : Event) (n : ℕ) (r : Subscription) → concerns ev r ≡ false
    → (reaches ev r ≡ false) × (changes ev n r ≡ false)
unconcerned (Telegram h) n r e = (e, rw e (and-false (leb n 1432)))
unconcerned (Clock time) n r e = (refl, e)

module _ (ev : Event) (r : Subscription) (e : concerns ev r ≡ false) where
  pub record-stays : (n : ℕ) → record_after ev n r ≡ r
  record-stays n = rw (unconcerned ev n r e).1

  pub part_stays : (dataset octets : List ℕ) → part_after ev dataset r octets ≡ octets
  part_stays dataset octets = rw (unconcerned ev (length dataset) r e).1

  pub tally-stays : (n : ℕ) (t : Tally) → tallied ev n r t ≡ t
  tally-stays n t = rw ((unconcerned ev n r e).0, (unconcerned ev n r e).1, add-zero t.matched, add-zero t.changed)
