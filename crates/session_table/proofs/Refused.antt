-- A refused call leaves listeners and sessions as they were.
-- Assumes nothing.
use mathlib.Core.Path.{◌≡◌, refl, sym, ap, ◌∙◌}
use mathlib.Core.Bool.{Bool, true, false, cond}
use mathlib.Core.List.{List}
use mathlib.Core.Option.{Option, none, some}
use Prim.Native.Nat.{ℕ}
use native.Mathlib.Omega.{arith}
use lib.IntN.{ℤ}
use lib.ListN.{get_or, set}
use lib.Seq.{set-get_or}
use Rattle.refusal.specs.declared.Refusal.{Refusal}
use Rattle.refusal.specs.declared.Refusal.TheVariants.{MsgType, NoSlot, NoSession}
use Rattle.tables.specs.Trace.{Outcome}
use Rattle.tables.specs.Lists.{lowest, grant, at_slot}
use Rattle.session.specs.declared.Listener.{Listener}
use Rattle.session.specs.declared.Session.{Session}
use Rattle.session.specs.declared.SessionState.{SessionState}
use Rattle.session_table.specs.Table.{Tables}
use Rattle.session.specs.Listener.{free_listener}
use Rattle.session.specs.Session.{free_session, is_free, waits_for_reply, owes_confirm, is_with_user, waits_for_confirm, can_take, answered, is_reply}
use Rattle.session.specs.declared.Kind.TheVariants.{Mn, Mr, Mp, Mq, Mc, Me}
use Rattle.session_table.specs.Table.{Call, listen, unlisten, calling, telegram, reply, confirm, time_check, Answer, listening, freed, opened, notified, requested, taken, replied, confirmed, codes, refused, refused_plain, Heard, Judged, refusal, passed, judged, Kind, kind_of, taken_at, ended, owing, at_session, unlistened, arriving, arriving_at, hearing, with_sessions, step}

-- 1 for a refusal, 0 for an answer that is none
abbrev refuses : Answer → ℕ
refuses (listening k) = 0
refuses freed = 0
refuses (opened k) = 0
refuses (notified l) = 0
refuses (requested l k) = 0
refuses (taken status k) = 0
refuses replied = 0
refuses confirmed = 0
refuses (codes cs) = 0
refuses (refused r status) = 1

-- an answer that is no refusal
never : {A : Type 0} (a : Answer) (r : Refusal) (status : ℤ) → refuses a ≡ 0 → a ≡ refused r status → A
never a r status p e = absurd (omega (arith, sym p ∙ ap refuses e))

module _ (r : Refusal) (status : ℤ) where
  grant-refused : {X : Type 0} (e : Option Answer) (k : Option ℕ) (full : Answer) (given : ℕ → Answer) (x : X)
      (xs : List X)
      → ((j : ℕ) → refuses (given j) ≡ 0)
      → (grant e k full given x xs).answer ≡ refused r status → (grant e k full given x xs).after ≡ xs
  unfolding grant
  grant-refused (some a) k full given x xs g e = refl
  grant-refused none none full given x xs g e = refl
  grant-refused none (some k) full given x xs g e = never (given k) r status (g k) e

  -- a choice between two outcomes
  chosen : {T : Type 0} (b : Bool) (x y : Outcome Answer T) (t : T) → (x.answer ≡ refused r status → x.after ≡ t)
      → (y.answer ≡ refused r status → y.after ≡ t)
      → (cond b x y).answer ≡ refused r status → (cond b x y).after ≡ t
  chosen true x y t f g = f
  chosen false x y t f g = g

  unlistened-refused : (l : Listener) → (unlistened l).answer ≡ refused r status → (unlistened l).after ≡ l
  unlistened-refused l =
      chosen l.used (record { answer = freed; after = free_listener })
      (record { answer = refused_plain NoSlot; after = l }) l (never freed r status refl) (λ e. refl)

  at-refused : (in' : SessionState → Bool) (done : Answer) (f : Session → Session) (x : Session) → refuses done ≡ 0
      → (at_session in' done f x).answer ≡ refused r status → (at_session in' done f x).after ≡ x
  at-refused in' done f x d =
      let done' : Outcome Answer Session = record { answer = done; after = f x } in
      let no : Outcome Answer Session = record { answer = refused_plain NoSession; after = x } in
      chosen (is_free x.state) (record { answer = refused_plain NoSlot; after = x }) (cond (in' x.state) done' no) x
      (λ e. refl)
      (chosen (in' x.state) done' no x (never done r status d) (λ e. refl))

  taken_refused : (k : Option ℕ) (f : Session → Session) (s : ℤ) (xs : List Session)
      → (taken_at k f s xs).answer ≡ refused r status → (taken_at k f s xs).after ≡ xs
  taken_refused none f s xs e = refl
  taken_refused (some k) f s xs e = never (taken s k) r status refl e

  arriving-refused : (kind : Kind) (l : Option ℕ) (h : Heard) (xs : List Session)
      → (arriving kind l h xs).answer ≡ refused r status → (arriving kind l h xs).after ≡ xs
  arriving-refused Mn none h xs e = refl
  arriving-refused Mn (some l) h xs e = refl
  arriving-refused Mr none h xs e = refl
  arriving-refused Mr (some l) h xs e = grant-refused _ _ _ (requested l) _ xs (λ j. refl) e
  arriving-refused Mp l h xs e = taken_refused (lowest (can_take waits_for_reply h.id) xs) ended h.status xs e
  arriving-refused Mq l h xs e = taken_refused (lowest (can_take waits_for_reply h.id) xs) (owing h) h.status xs e
  arriving-refused Mc l h xs e = taken_refused (lowest (can_take waits_for_confirm h.id) xs) ended h.status xs e
  arriving-refused Me l h xs e = taken_refused (lowest (can_take waits_for_reply h.id) xs) ended h.status xs e

  pub refused-leaves : (c : Call) (t : Tables) → (step c t).answer ≡ refused r status → (step c t).after ≡ t
  unfolding step at_slot
  refused-leaves (listen com_id senders u) t e =
      ap (λ ls. record { listeners = ls; sessions = t.sessions })
      (grant-refused _ _ _ listening _ t.listeners (λ j. refl) e)
  refused-leaves (unlisten k) t e =
      ap (λ ls. record { listeners = ls; sessions = t.sessions })
      (ap (set t.listeners k) (unlistened-refused (get_or t.listeners k free_listener) e)
      ∙ set-get_or t.listeners k free_listener)
  refused-leaves (calling id timeout time) t e =
      ap (λ xs. record { listeners = t.listeners; sessions = xs })
      (grant-refused _ _ _ opened _ t.sessions (λ j. refl) e)
  refused-leaves (telegram a d) t e = by (judged a d) e
    where
      by : (j : Judged) → (arriving_at j t).answer ≡ refused r status → (arriving_at j t).after ≡ t
      by (refusal n) q = refl
      by (passed h) q =
          ap (λ xs. record { listeners = t.listeners; sessions = xs })
          (arriving-refused (kind_of h.type) (hearing h t.listeners) h t.sessions q)
  refused-leaves (reply k type timeout time) t e =
      chosen (is_reply type)
      (with_sessions t.listeners
      (at_slot free_session (at_session is_with_user replied (answered type timeout time)) k t.sessions))
      (record { answer = refused_plain MsgType; after = t })
      t
      (λ q.
      ap (λ xs. record { listeners = t.listeners; sessions = xs })
      (ap (set t.sessions k)
      (at-refused is_with_user replied (answered type timeout time) (get_or t.sessions k free_session) refl q)
      ∙ set-get_or t.sessions k free_session))
      (λ q. refl) e
  refused-leaves (confirm k) t e =
      ap (λ xs. record { listeners = t.listeners; sessions = xs })
      (ap (set t.sessions k) (at-refused owes_confirm confirmed ended (get_or t.sessions k free_session) refl e)
      ∙ set-get_or t.sessions k free_session)
  refused-leaves (time_check time) t e = never (step (time_check time) t).answer r status refl e
