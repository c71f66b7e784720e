-- One listener and one session: what was packed means it again.
-- Assumes nothing.
use mathlib.Core.Path.{◌≡◌, refl, ap, ap₂, subst}
use mathlib.Core.List.{List}
use mathlib.Core.Bool.{Bool, true, false, cond, not}
use Prim.Native.Nat.{ℕ, ◌<◌, ◌≤◌, ◌^◌, ◌%◌}
use native.Mathlib.Omega.{arith}
use lib.Dec.{eqb}
use lib.ListN.{length}
use lib.Seq.{take_all}
use Rattle.octets.specs.Octets.{little, little_of}
use Rattle.octets.proofs.Numbers.{little-back}
use Rattle.timing.specs.declared.Timing.{Timing}
use Rattle.session.specs.declared.Listener.{Listener}
use Rattle.session.specs.declared.Session.{Session}
use Rattle.session.specs.declared.SessionState.{SessionState}
use Rattle.session.specs.declared.SessionState.TheVariants.{Free, WaitingForReply, OwingConfirm, WithUser, WaitingForConfirm}
use Rattle.packed.specs.Packed.{listener_of, state_of, session_of, listener_octets, state_number, timing_of, session_octets}

-- ---- one listener

used-back : (b : Bool) → not (eqb (cond b 1 0 % 256) 0) ≡ b
used-back true = refl
used-back false = refl

abbrev made : Bool → ℕ → ℕ → ℕ → List ℕ → Listener
made used com_id start end uri =
    record { used = used; com_id = com_id; senders = record { start = start; end = end }; uri = uri }

same : {u u' : Bool} {c c' s s' e e' : ℕ} {i i' : List ℕ} → u ≡ u' → c ≡ c' → s ≡ s' → e ≡ e' → i ≡ i'
    → made u c s e i ≡ made u' c' s' e' i'
same a b c d e = rw (a, b, c, d, e) refl

pub listener-back : (l : Listener) → l.com_id < 256 ^ 4 → l.senders.start < 256 ^ 4 → l.senders.end < 256 ^ 4
    → length l.uri ≡ 32 → listener_of (listener_octets l) ≡ l
listener-back l c s e u =
    let z : length l.uri ≤ 32 = omega (arith, u) in
    same (used-back l.used) (little-back 4 l.com_id c) (little-back 4 l.senders.start s) (little-back 4 l.senders.end e)
    (take_all 32 l.uri z)

-- ---- one session

timing-back : (t : Timing) → t.start < 256 ^ 8 → t.timeout < 256 ^ 4
    → ◌≡◌ {A = Timing} (record { start = little (little_of 8 t.start); timeout = little (little_of 4 t.timeout) }) t
timing-back t s o =
    ap₂ (λ (x y : ℕ). record { start = x; timeout = y }) (little-back 8 t.start s) (little-back 4 t.timeout o)

state-back : (x : SessionState) → (timing_of x).start < 256 ^ 8 → (timing_of x).timeout < 256 ^ 4
    → state_of (state_number x % 256) (record { start = little (little_of 8 (timing_of x).start); timeout = little (little_of 4 (timing_of x).timeout) })
    ≡ x
state-back Free s o = refl
state-back (WaitingForReply t) s o = ap WaitingForReply (timing-back t s o)
state-back (OwingConfirm t) s o = ap OwingConfirm (timing-back t s o)
state-back (WithUser t) s o = ap WithUser (timing-back t s o)
state-back (WaitingForConfirm t) s o = ap WaitingForConfirm (timing-back t s o)

pub session-back : (x : Session) (t : Timing) → t ≡ timing_of x.state → t.start < 256 ^ 8 → t.timeout < 256 ^ 4
    → length x.id ≡ 16 → session_of (session_octets x) ≡ x
session-back x t e s o u =
    let z : length x.id ≤ 16 = omega (arith, u) in
    let s' : (timing_of x.state).start < 256 ^ 8 = subst (λ (y : Timing). y.start < 256 ^ 8) e s in
    let o' : (timing_of x.state).timeout < 256 ^ 4 = subst (λ (y : Timing). y.timeout < 256 ^ 4) e o in
    ap₂ (λ (i : List ℕ) (y : SessionState). record { id = i; state = y }) (take_all 16 x.id z)
    (state-back x.state s' o')
