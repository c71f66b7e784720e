-- Demand 3 whole: each table's own theorem, and the laws that other tables' calls leave it as it is and that two models
-- side by side agree where each does.
use mathlib.Core.Path.{◌≡◌, refl}
use mathlib.Core.Bool.{Bool, true, false}
use Prim.Native.Nat.{ℕ, ◌≤◌}
use lib.ListN.{length, replicate, length-replicate}
use mathlib.Core.List.{List, [], ◌∷◌}
use native.Mathlib.Omega.{arith}
use Rattle.tables.specs.Trace.{Outcome, trace, run}
use Rattle.tables.proofs.Trace.{same-trace}
use Rattle.tables.proofs.View.{Stands, same_view, owns, run-part}
use Rattle.subscription_table.specs.Slot.{slot_octets}
use Rattle.subscription_table.specs.Table as pd
use Rattle.subscription_table.specs.Watched as slot
use Rattle.subscription_table.specs.Alone as slots
use Rattle.subscription_table.proofs.Watched as slot-watch
use Rattle.subscription_table.proofs.Lent.{fits-means}
use Rattle.subscription_table.proofs.Beside as slots-beside
use Rattle.session.specs.Session.{free_session}
use Rattle.session_table.specs.Table as md
use Rattle.isolation.specs.Alone as session
use Rattle.isolation.specs.Beside as sessions
use Rattle.isolation.specs.Beside.{Slots}
use Rattle.session_table.specs.Table.{Tables}
use Rattle.isolation.proofs.Watched as session-watch
use Rattle.isolation.proofs.Beside as sessions-beside
use Rattle.isolation.specs.Isolation.{Call, process, message, processed, Both, both, Stack, step, empty, of_process}
use Rattle.isolation.specs.Isolation.{of_messages, SlotAlone, SessionAlone, seen_by, side_by_side, Isolation}

process-stands : Stands of_process step pd.step
unfolding both
process-stands = grind arith

messages-stand : Stands of_messages step md.step
unfolding both
messages-stand = grind arith

processed-same : (a b : pd.Answer) → processed a ≡ processed b → a ≡ b
processed-same a b e = cc

slot-alone : (n octets m i : ℕ) (before after : List Call) → SlotAlone (run step before (empty n octets m i)) after
unfolding both
slot-alone n octets m i before after q time k e =
    let s : Stack = run step before (empty n octets m i) in
    let c = pd.subscribe q time in
    let own = owns of_process step pd.step process-stands before in
    let same : s.subscriptions ≡ run pd.step own (pd.empty_table n octets) =
    run-part of_process step pd.step process-stands before (empty n octets m i) in
    let grants : (pd.step c s.subscriptions).answer ≡ pd.granted k =
    processed-same (pd.step c s.subscriptions).answer (pd.granted k) e in
    let g : (slot.slot_at k (pd.step c s.subscriptions).after ≡ (pd.step c (pd.empty_table 1 slot_octets)).after)
    × slot-watch.Held k q time (pd.step c s.subscriptions).after =
    rw same (slot-watch.granted-held n octets own q time k (rw same at grants)) in (
      g.0,
      rw g.0 at (same_view of_process step (slot.slot_watch k q.filter) process-stands (slot-watch.Held k q time)
          (slot-watch.follows k q time) after (step (process c) s).after g.1),
    )

session-alone : (n octets m i : ℕ) (before after : List Call)
    → SessionAlone (run step before (empty n octets m i)) after
unfolding both
session-alone n octets m i before after c k e =
    let s : Stack = run step before (empty n octets m i) in
    let id = session.identifier c in
    let own = owns of_messages step md.step messages-stand before in
    let same : s.messages ≡ run md.step own (md.empty_tables m i) =
    run-part of_messages step md.step messages-stand before (empty n octets m i) in
    let alone = md.step c (record { listeners = s.messages.listeners; sessions = free_session ∷ [] }) in
    let g : ((md.step c s.messages).answer ≡ session.numbered k alone.answer)
    × (session.slot_at k (md.step c s.messages).after ≡ session.slot_at 0 alone.after)
    × session-watch.Held k id (md.step c s.messages).after =
    rw same (session-watch.opened-held m i own c k (rw same at e)) in (
      g.0,
      g.1,
      rw g.1 at (same_view of_messages step (session.session_watch k id) messages-stand
          (session-watch.Held k id) (session-watch.follows k id) after (step (message c) s).after g.2),
    )

-- ---- side by side

-- two models beside one another agree with two tables where each agrees with its own
module _ {S T : Type 0} (f : pd.Call → S → Outcome pd.Answer S) (g : md.Call → T → Outcome md.Answer T)
    (seen_s : S → pd.Table) (seen_t : T → Tables) (GoodS : S → Type 0) (GoodT : T → Type 0)
    (keeps_s : (c : pd.Call) (s : S) → GoodS s → GoodS (f c s).after)
    (keeps_t : (c : md.Call) (t : T) → GoodT t → GoodT (g c t).after)
    (agrees_s : (c : pd.Call) (s : S) → GoodS s
    → pd.step c (seen_s s) ≡ record { answer = (f c s).answer; after = seen_s (f c s).after })
    (agrees_t : (c : md.Call) (t : T) → GoodT t
    → md.step c (seen_t t) ≡ record { answer = (g c t).answer; after = seen_t (g c t).after })
  where
    abbrev Good : Both S T → Type 0
    Good b = GoodS b.subscriptions × GoodT b.messages

    keeps : (c : Call) (b : Both S T) → Good b → Good (both f g c b).after
    unfolding both
    keeps c b h = grind arith

    agrees : (c : Call) (b : Both S T) → Good b → step c (seen_by seen_s seen_t b)
        ≡ record { answer = (both f g c b).answer; after = seen_by seen_s seen_t (both f g c b).after }
    unfolding both
    agrees c b h = grind arith

    same-both : (calls : List Call) (b : Both S T) → Good b
        → trace step (λ s. s) calls (seen_by seen_s seen_t b) ≡ trace (both f g) (seen_by seen_s seen_t) calls b
    same-both calls b h = same-trace step (both f g) (seen_by seen_s seen_t) Good keeps agrees calls b h

side-by-side : (n octets m i : ℕ) (calls : List Call)
    → trace step (λ s. s) calls (empty n octets m i) ≡ side_by_side n octets m i calls
side-by-side n octets m i calls = go (pd.fits n octets) refl
  where
    GoodT : Slots → Type 0
    GoodT s = sessions-beside.Good s.slots

    go : (b : Bool) → pd.fits n octets ≡ b
        → trace step (λ s. s) calls (empty n octets m i) ≡ side_by_side n octets m i calls
    go true e =
        let fit = fits-means n octets e in
        rw (e, fit.1, ← slots-beside.joined-empty n, ← sessions-beside.joined-empty m i)
        (same-both slots.beside sessions.beside slots.joined sessions.joined (λ ss. length ss ≤ 32)
        GoodT slots-beside.keeps sessions-beside.keeps slots-beside.agrees sessions-beside.agrees calls
        (record { subscriptions = replicate n slots.free; messages = sessions.empty_slots m i })
        (rw (length-replicate n slots.free) fit.0, sessions-beside.good-empty i))
    go false e =
        rw (e, ← sessions-beside.joined-empty m i)
        (same-both slots.refusing sessions.beside (λ t. t) sessions.joined slots-beside.Refused GoodT (λ c t h. h)
        sessions-beside.keeps slots-beside.refuses sessions-beside.agrees calls
        (record { subscriptions = pd.empty_table n octets; messages = sessions.empty_slots m i })
        (simp length-replicate e, sessions-beside.good-empty i))

pub isolation : Isolation
isolation = record { side-by-side = side-by-side; slot-alone = slot-alone; session-alone = session-alone }
