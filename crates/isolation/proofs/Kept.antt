-- A step leaves a session free, or with its identifier.
-- Assumes nothing.
-- y is free, or it is in use where x is, with the same identifier
use mathlib.Core.Path.{◌≡◌, refl, sym, ◌∙◌}
use mathlib.Core.Logic.{◌⊎◌, inl, inr}
use mathlib.Core.Bool.{Bool, true, false, not}
use mathlib.Core.List.{List}
use native.Mathlib.Omega.{arith}
use Prim.Native.Nat.{ℕ}
use Rattle.md.specs.Uri.{equal}
use Rattle.session.specs.declared.Session.{Session}
use Rattle.session.specs.declared.SessionState.{SessionState}
use Rattle.session.specs.Session.{free_session, is_free, has, expired}
use Rattle.session.specs.Session.{answered}
use Rattle.session_table.specs.Table.{Answer, Heard, ended, owing, at_session}
use Rattle.std.proofs.lemmas.Bool.{and_parts}
use Rattle.isolation.proofs.Identifiers.{equal-same}

unfoldable pub Kept : Session → Session → Type 0
Kept x y = (y ≡ free_session) ⊎ ((y.id ≡ x.id) × (is_free y.state ≡ is_free x.state))

module _ (id : List ℕ) (x y : Session) where
  same-has : (y.id ≡ x.id) → is_free y.state ≡ is_free x.state → has id y ≡ has id x
  unfolding has
  same-has p q = rw (p, q) refl

  pub kept-own : Kept x y → has id x ≡ true → (is_free y.state ≡ true) ⊎ (has id y ≡ true)
  unfolding Kept
  kept-own (inl e) h = inl (rw e refl)
  kept-own (inr p) h = inr (same-has p.0 p.1 ∙ h)

  pub kept-other : Kept x y → has id x ≡ false → has id y ≡ false
  unfolding Kept has
  kept-other k h = grind arith

pub has-busy : (id : List ℕ) (x : Session) → has id x ≡ true → is_free x.state ≡ false
unfolding has
has-busy id x h = grind arith

-- one session has one identifier
pub same_id : (id i : List ℕ) (x : Session) → has id x ≡ true → has i x ≡ true → i ≡ id
unfolding has
same_id id i x h n =
    sym (equal-same x.id i (and_parts (not (is_free x.state)) (equal x.id i) n).1)
    ∙ equal-same x.id id (and_parts (not (is_free x.state)) (equal x.id id) h).1

pub kept-ended : (x : Session) → Kept x (ended x)
unfolding Kept
kept-ended x = inl refl

pub kept-owing : (h : Heard) (x : Session) → is_free x.state ≡ false → Kept x (owing h x)
unfolding Kept
kept-owing h x b = inr (refl, sym b)

pub kept-answered : (type timeout time : ℕ) (x : Session) → is_free x.state ≡ false
    → Kept x (answered type timeout time x)
unfolding Kept
kept-answered type timeout time x b = grind arith

-- what a call that names a session leaves
pub kept_at : (in' : SessionState → Bool) (done : Answer) (f : Session → Session) (x : Session)
    → (is_free x.state ≡ false → Kept x (f x)) → Kept x (at_session in' done f x).after
unfolding Kept
kept_at in' done f x k = grind arith

pub kept-expired : (time : ℕ) (x : Session) → Kept x (expired time x)
unfolding Kept
kept-expired time x = grind arith
