-- A part that takes an event is as long as it was.
-- Assumes nothing.
use Prim.Native.Nat.{ℕ, ◌≤◌}
use native.Mathlib.Omega.{arith}
use mathlib.Core.Path.{◌≡◌, refl, ◌∙◌}
use mathlib.Core.List.{List}
use mathlib.Core.Bool.{Bool, true, false, cond, ◌&&◌}
use lib.Dec.{leb}
use lib.ListN.{length, drop, replicate, length-replicate, length-append, length-drop}
use borrow.Author.Tests.{leb-true}
use Rattle.octets.specs.Octets.{put}
use Rattle.octets.proofs.Puts.{put-start}
use Rattle.subscription.specs.Record.{record_takes, record_due, zeroes}
use Rattle.subscription_step.specs.Step.{part_after}
use Rattle.subscription_step.specs.declared.Event.{Event}
use Rattle.subscription_step.specs.declared.Event.TheVariants.{Telegram, Clock}
use Rattle.subscription.specs.declared.Subscription.{Subscription}

cleared-length : (b : Bool) (p : List ℕ) → length (cond b (replicate (length p) 0) p) ≡ length p
cleared-length true p = length-replicate (length p) 0
cleared-length false p = refl

put-length : (d p : List ℕ) → length d ≤ length p → length (put 0 d p) ≡ length p
put-length d p h = rw (put-start d p) (omega (arith, length-append d (drop (length d) p), length-drop (length d) p))

both : (a b : Bool) → a && b ≡ true → a ≡ true
both true b e = refl
both false b e = e

pub after-length : (ev : Event) (d : List ℕ) (r : Subscription) (p : List ℕ) → length p ≡ 1432
    → length (part_after ev d r p) ≡ 1432
after-length (Clock time) d r p e = go (record_due time r) ∙ e
  where
    go : (b : Bool) → length (cond b (cond (zeroes r) (replicate (length p) 0) p) p) ≡ length p
    go true = cleared-length (zeroes r) p
    go false = refl
after-length (Telegram h) d r p e = go (leb (length d) 1432 && record_takes h r) refl ∙ e
  where
    go : (b : Bool) → leb (length d) 1432 && record_takes h r ≡ b → length (cond b (put 0 d p) p) ≡ length p
    go true c = put-length d p (let k = leb-true (length d) 1432 (both (leb (length d) 1432) (record_takes h r) c) in omega (arith, k))
    go false c = refl
