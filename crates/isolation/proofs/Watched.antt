-- Demand 3 for one session, from the call that opens it through the call that frees it.
-- Assumes nothing.
-- slot k has a session of an identifier that no other slot has
use mathlib.Core.Path.{◌≡◌, refl, sym, ap, ◌∙◌}
use mathlib.Core.Logic.{◌≢◌, ◌⊎◌, inl, inr}
use mathlib.Core.Bool.{Bool, true, false, cond, not, false≢true}
use mathlib.Core.List.{List, [], ◌∷◌, map}
use mathlib.Core.Option.{Option, none, some}
use Prim.Native.Nat.{ℕ, ◌<◌}
use native.Mathlib.Omega.{arith}
use lib.Dec.{eqb}
use lib.IntN.{ℤ, negsuc}
use lib.ListN.{length, get_or, set, length-set, length-map, get_or-map}
use lib.Seq.{get_or-set_same, get_or-set_other}
use Rattle.std.specs.Prelude.{Ok, Err, Result}
use Rattle.refusal.specs.Refusal.{first_of}
use Rattle.refusal.specs.declared.Refusal.{Refusal}
use Rattle.refusal.specs.declared.Refusal.TheVariants.{SessionInUse, NoFreeSlot, NoFreeSession}
use Rattle.md.specs.Md.{session_id_of}
use Rattle.md.specs.Uri.{equal}
use Rattle.arrival.specs.declared.Arrival.{Arrival}
use Rattle.tables.specs.Lists.{any, lowest, grant, at_slot}
use Rattle.tables.specs.Trace.{Outcome, run}
use Rattle.tables.specs.Watch.{step_if, answer_if}
use Rattle.tables.proofs.Watch.{Follows, same-watch}
use Rattle.tables.proofs.Lists.{eqb-other, lowest-is, lowest-only, fact-set, any_false, grant-leaves}
use Rattle.session.specs.declared.Listener.{Listener}
use Rattle.session.specs.declared.Session.{Session}
use Rattle.session.specs.declared.SessionState.{SessionState}
use Rattle.session.specs.declared.SessionState.TheVariants.{WaitingForReply, WithUser}
use Rattle.session_table.specs.Table.{Tables}
use Rattle.session.specs.Listener as Listeners
use Rattle.session.specs.Session.{free_session, is_free, waits_for_reply, owes_confirm, is_with_user, waits_for_confirm}
use Rattle.session.specs.Session.{has, code_of, expired}
use Rattle.session.specs.Session.{can_take, answered, is_reply}
use Rattle.session.specs.declared.Kind.TheVariants.{Mn, Mr, Mp, Mq, Mc, Me}
use Rattle.session_table.specs.Table.{Call, listen, unlisten, calling, telegram, reply, confirm, time_check, Answer}
use Rattle.session_table.specs.Table.{listening, opened, requested, replied, confirmed, refused, refused_plain}
use Rattle.session_table.specs.Table.{listen_checks, earlier, Heard, Judged, refusal, passed, judged, judged_by}
use Rattle.session_table.specs.Table.{heard_of, md_checks, Kind, kind_of, opening, taken_at, taking, ended, owing}
use Rattle.session_table.specs.Table.{at_session, with_sessions, notifying, requesting, arriving, step, empty_tables}
use Rattle.isolation.specs.Alone.{slot_at, fed, heard, heard_alone, numbered, session_watch, opened_at, identifier}
use Rattle.isolation.specs.Alone.{concerns, own_telegram, OneSession}
use Rattle.std.proofs.lemmas.Bool.{and_parts, eqb-true}
use Rattle.isolation.proofs.Identifiers.{equal-same, equal-refl}
use Rattle.isolation.proofs.Kept.{Kept, kept-own, kept-other, has-busy, same_id, kept-ended, kept-owing, kept-answered}
use Rattle.isolation.proofs.Kept.{kept_at, kept-expired}

pub record Has (k : ℕ) (id : List ℕ) (xs : List Session) : Type 0 where
  lt : k < length xs
  own : has id (get_or xs k free_session) ≡ true
  unique : (j : ℕ) → j ≢ k → has id (get_or xs j free_session) ≡ false

abbrev is_free_session : Session → Bool
is_free_session x = is_free x.state

free-has : (id : List ℕ) → has id free_session ≡ false
unfolding has
free-has id = refl

module _ (k : ℕ) (id : List ℕ) where
  other : (xs : List Session) → Has k id xs → (j : ℕ) (y : Session) → k ≢ j → has id y ≡ false → Has k id (set xs j y)
  other xs h j y n e =
      record {
        lt = rw (length-set xs j y) h.lt;
        own = rw (get_or-set_other xs j k y free_session n) h.own;
        unique = λ i m. fact-set (λ x. has id x ≡ false) free_session xs j i y (h.unique i m) e;
      }

  -- after a step of slot k it is free, or has its session still
  own-step : (xs : List Session) → Has k id xs → (y : Session) → (is_free y.state ≡ true) ⊎ (has id y ≡ true)
      → (is_free (get_or (set xs k y) k free_session).state ≡ true) ⊎ Has k id (set xs k y)
  own-step xs h y (inl e) = inl (rw (get_or-set_same xs k y free_session h.lt) e)
  own-step xs h y (inr e) =
      inr
      (record {
        lt = rw (length-set xs k y) h.lt;
        own = rw (get_or-set_same xs k y free_session h.lt) e;
        unique = λ i m. rw (get_or-set_other xs k i y free_session m) (h.unique i m);
      })

  -- an opening gives another slot to another identifier
  record Leaves (xs ys : List Session) : Type 0 where
    slot : get_or ys k free_session ≡ get_or xs k free_session
    still : Has k id ys

  opening-leaves : (given : ℕ → Answer) (full : Answer) (i : List ℕ) (state : SessionState) (xs : List Session)
      → is_free state ≡ false → Has k id xs
      → Leaves xs (opening given full i state xs).after
  unfolding grant has
  opening-leaves given full i state xs b h =
      record {
        slot =
            grant-leaves is_free_session free_session (cond (any (has i) xs) (some (refused_plain SessionInUse)) none)
            full given y xs k (has-busy id (get_or xs k free_session) h.own) (lowest is_free_session xs) refl;
        still = go (any (has i) xs) refl (lowest is_free_session xs) refl;
      }
    where
      y : Session
      y = record { id = i; state = state }

      go : (c : Bool) → any (has i) xs ≡ c → (o : Option ℕ) → lowest is_free_session xs ≡ o
          → Has k id (grant (cond c (some (refused_plain SessionInUse)) none) o full given y xs).after
      go true e o l = h
      go false e none l = h
      go false e (some j) l =
          other xs h j y (λ p. false≢true (sym (has-busy id (get_or xs k free_session) h.own)
          ∙ rw p (lowest-is is_free_session free_session xs j l).1))
          (foreign (any_false (has i) free_session xs k e refl))
        where
          foreign : has i (get_or xs k free_session) ≡ false → has id y ≡ false
          foreign n = by (equal i id) refl
            where
              by : (c : Bool) → equal i id ≡ c → has id y ≡ false
              by true q =
                  absurd (false≢true (sym n ∙ ap (λ z. has z (get_or xs k free_session)) (equal-same i id q) ∙ h.own))
              by false q = rw (b, q) refl

  -- a telegram of slot k's identifier is taken there or nowhere
  mine : (in' : SessionState → Bool) (xs : List Session) → Has k id xs
      → lowest (can_take in' id) xs ≡ cond (can_take in' id (get_or xs k free_session)) (some k) none
  mine in' xs h = lowest-only (can_take in' id) free_session xs k h.lt (λ j m. rw (h.unique j m) refl)

  -- one of another identifier elsewhere
  theirs : (in' : SessionState → Bool) (f : Session → Session) (i : List ℕ) (status : ℤ) (xs : List Session)
      → Has k id xs → equal id i ≡ false
      → ((x : Session) → is_free x.state ≡ false → Kept x (f x)) → (o : Option ℕ) → lowest (can_take in' i) xs ≡ o
      → Leaves xs (taken_at o f status xs).after
  theirs in' f i status xs h e kept none l = record { slot = refl; still = h }
  theirs in' f i status xs h e kept (some j) l =
      let x : Session = get_or xs j free_session in
      let has_i : has i x ≡ true =
      (and_parts (has i x) (in' x.state) (lowest-is (can_take in' i) free_session xs j l).1).0 in
      let n : k ≢ j = λ p. apart (rw (sym p) at has_i) in
      record {
        slot = get_or-set_other xs j k (f x) free_session n;
        still =
            other xs h j (f x) n (kept-other id x (f x) (kept x (has-busy i x has_i)) (h.unique j (λ p. n (sym p))));
      }
    where
      apart : has i (get_or xs k free_session) ≡ true → ⊥
      apart q =
          false≢true (sym e ∙ ap (λ z. equal id z) (same_id id i (get_or xs k free_session) h.own q) ∙ equal-refl id)

  -- the time check
  checked : (time : ℕ) (xs : List Session) → Has k id xs
      → (is_free (get_or (map (expired time) xs) k free_session).state ≡ true) ⊎ Has k id (map (expired time) xs)
  checked time xs h = go (kept-own id x (expired time x) (kept-expired time x) h.own)
    where
      x : Session
      x = get_or xs k free_session

      go : (is_free (expired time x).state ≡ true) ⊎ (has id (expired time x) ≡ true)
          → (is_free (get_or (map (expired time) xs) k free_session).state ≡ true) ⊎ Has k id (map (expired time) xs)
      go (inl e) = inl (rw (get_or-map (expired time) xs k free_session) e)
      go (inr e) =
          inr
          (record {
            lt = rw (length-map xs (expired time)) h.lt;
            own = rw (get_or-map (expired time) xs k free_session) e;
            unique =
                λ j m. rw (get_or-map (expired time) xs j free_session)
                (kept-other id (get_or xs j free_session) (expired time (get_or xs j free_session))
                (kept-expired time (get_or xs j free_session)) (h.unique j m));
          })

  -- ---- call by call

  abbrev pub Held : Tables → Type 0
  Held t = Has k id t.sessions

  abbrev only : Session → Tables
  only x = record { listeners = []; sessions = x ∷ [] }

  -- a call that leaves slot k and is not fed to it
  passes : (c : Call) (t : Tables) → fed k id c ≡ none → ((a : Answer) → heard k id c a ≡ none)
      → Leaves t.sessions (step c t).after.sessions
      → Follows (session_watch k id) Held c t
  passes c t f n l = grind arith

  same-leaves : (xs : List Session) → Has k id xs → Leaves xs xs
  same-leaves xs h = record { slot = refl; still = h }

  notifying-leaves : (o : Option ℕ) (xs : List Session) → Has k id xs → Leaves xs (notifying o xs).after
  notifying-leaves o xs h = grind arith

  requesting-leaves : (o : Option ℕ) (hd : Heard) (xs : List Session) → Has k id xs
      → Leaves xs (requesting o hd xs).after
  requesting-leaves none hd xs h = same-leaves xs h
  requesting-leaves (some l) hd xs h = opening-leaves (requested l) _ hd.id _ xs refl h

  -- ---- a telegram that passed its checks

  module _ (a : Arrival) (d : List ℕ) (hd : Heard) (e : judged a d ≡ passed hd) where
    abbrev c : Call
    c = telegram a d

    abbrev match : Tables → Option ℕ
    match u = lowest (Listeners.hears hd.com_id hd.sender hd.destination) u.listeners

    arrives : (u : Tables) (kind : Kind) → kind_of hd.type ≡ kind
        → step c u ≡ record {
          answer = (arriving kind (match u) hd u.sessions).answer;
          after = record { listeners = u.listeners; sessions = (arriving kind (match u) hd u.sessions).after };
        }
    unfolding step
    arrives u kind q = rw (e, q) refl

    not_own : (kind : Kind) → kind_of hd.type ≡ kind → concerns kind ≡ false → own_telegram id (judged a d) ≡ false
    not_own kind q n = rw (e, q, n) refl

    -- Mn and Mr leave a session that is open
    by-leaving : (t : Tables) (kind : Kind) → kind_of hd.type ≡ kind → concerns kind ≡ false
        → Leaves t.sessions (arriving kind (match t) hd t.sessions).after
        → Follows (session_watch k id) Held c t
    by-leaving t kind q n l =
        passes c t (rw (not_own kind q n) refl) (λ b. rw (not_own kind q n) refl) (rw (arrives t kind q) l)

    module _ (in' : SessionState → Bool) (f : Session → Session)
        (kept : (x : Session) → is_free x.state ≡ false → Kept x (f x)) where
      -- at one session: taken or not
      took : (xs : List Session) → Has k id xs → hd.id ≡ id → (b : Bool)
          → can_take in' id (get_or xs k free_session) ≡ b
          → (get_or (taking in' f hd xs).after k free_session ∷ []
          ≡ (taking in' f hd (get_or xs k free_session ∷ [])).after)
          × ((taking in' f hd xs).answer ≡ numbered k (taking in' f hd (get_or xs k free_session ∷ [])).answer)
          × ((is_free (get_or (taking in' f hd xs).after k free_session).state ≡ true)
          ⊎ Has k id (taking in' f hd xs).after)
      took xs h i true b =
          let x : Session = get_or xs k free_session in
          rw (i, mine in' xs h, b) (
            ap (λ z. z ∷ []) (get_or-set_same xs k (f x) free_session h.lt),
            refl,
            own-step xs h (f x) (kept-own id x (f x) (kept x (has-busy id x h.own)) h.own),
          )
      took xs h i false b = rw (i, mine in' xs h, b) (refl, refl, inr h)

      by-taking : (t : Tables) → Held t → (kind : Kind) → kind_of hd.type ≡ kind → concerns kind ≡ true
          → ((o : Option ℕ) (xs : List Session) → arriving kind o hd xs ≡ taking in' f hd xs)
          → Follows (session_watch k id) Held c t
      by-taking t h kind q n same = go (equal id hd.id) refl
        where
          x : Session
          x = get_or t.sessions k free_session

          go : (b : Bool) → equal id hd.id ≡ b → Follows (session_watch k id) Held c t
          go true b =
              let own : own_telegram id (judged a d) ≡ true = rw (e, q, n, b) refl in
              let s = took t.sessions h (sym (equal-same id hd.id b)) (can_take in' id x) refl in
              record {
                slot =
                    rw (own, arrives t kind q, same (match t) t.sessions)
                    (rw (step_if, arrives (only x) kind q, same (match (only x)) (x ∷ []))
                    (ap (λ l. record { listeners = []; sessions = l }) s.0));
                answer = rw (own, arrives t kind q, same (match t) t.sessions)
                    (rw (answer_if, own, arrives (only x) kind q, same (match (only x)) (x ∷ [])) (ap some s.1));
                on = rw (arrives t kind q, same (match t) t.sessions) s.2;
              }
          go false b =
              let own : own_telegram id (judged a d) ≡ false = rw (e, q, n, b) refl in
              passes c t (rw own refl) (λ z. rw own refl)
              (rw (arrives t kind q, same (match t) t.sessions)
              (theirs in' f hd.id hd.status t.sessions h b kept (lowest (can_take in' hd.id) t.sessions) refl))

    by_kind : (t : Tables) → Held t → (kind : Kind) → kind_of hd.type ≡ kind → Follows (session_watch k id) Held c t
    by_kind t h Mn q = by-leaving t Mn q refl (notifying-leaves (match t) t.sessions h)
    by_kind t h Mr q = by-leaving t Mr q refl (requesting-leaves (match t) hd t.sessions h)
    by_kind t h Mp q = by-taking waits_for_reply ended (λ x b. kept-ended x) t h Mp q refl (λ o xs. refl)
    by_kind t h Mq q = by-taking waits_for_reply (owing hd) (kept-owing hd) t h Mq q refl (λ o xs. refl)
    by_kind t h Mc q = by-taking waits_for_confirm ended (λ x b. kept-ended x) t h Mc q refl (λ o xs. refl)
    by_kind t h Me q = by-taking waits_for_reply ended (λ x b. kept-ended x) t h Me q refl (λ o xs. refl)

  -- ---- a call that names a session

  module _ (f : Session → Outcome Answer Session) (kept : (x : Session) → Kept x (f x).after) (xs : List Session)
      (h : Has k id xs) where
    at_own : (get_or (at_slot free_session f k xs).after k free_session ≡ (f (get_or xs k free_session)).after)
        × ((is_free (get_or (at_slot free_session f k xs).after k free_session).state ≡ true)
        ⊎ Has k id (at_slot free_session f k xs).after)
    unfolding at_slot
    at_own =
        let x : Session = get_or xs k free_session in (
          get_or-set_same xs k (f x).after free_session h.lt,
          own-step xs h (f x).after (kept-own id x (f x).after (kept x) h.own),
        )

    at_other : (j : ℕ) → eqb j k ≡ false → Leaves xs (at_slot free_session f j xs).after
    unfolding at_slot
    at_other j b =
        let x : Session = get_or xs j free_session in
        record {
          slot = get_or-set_other xs j k (f x).after free_session (eqb-other j k b);
          still = other xs h j (f x).after (eqb-other j k b)
              (kept-other id x (f x).after (kept x) (h.unique j (λ p. eqb-other j k b (sym p))));
        }

  at-answer : (f : Session → Outcome Answer Session) (j : ℕ) (xs : List Session)
      → (at_slot free_session f j xs).answer ≡ (f (get_or xs j free_session)).answer
  unfolding at_slot
  at-answer f j xs = refl

  at_only : (f : Session → Outcome Answer Session) (x : Session)
      → (at_slot free_session f 0 (x ∷ [])).after ≡ (f x).after ∷ []
  unfolding at_slot
  at_only f x = refl

  by-naming : (c own : Call) (j : ℕ) (f : Session → Outcome Answer Session) → ((x : Session) → Kept x (f x).after)
      → fed k id c ≡ cond (eqb j k) (some own) none
      → ((a : Answer) → heard k id c a ≡ cond (eqb j k) (some a) none)
      → ((a : Answer) → heard_alone k id c a ≡ cond (eqb j k) (some a) none)
      → ((u : Tables) → step c u ≡ with_sessions u.listeners (at_slot free_session f j u.sessions))
      → ((u : Tables) → step own u ≡ with_sessions u.listeners (at_slot free_session f 0 u.sessions))
      → (t : Tables) → Held t → Follows (session_watch k id) Held c t
  by-naming c own j f kept fd hr hra s so t h = go (eqb j k) refl
    where
      x : Session
      x = get_or t.sessions k free_session

      go : (b : Bool) → eqb j k ≡ b → Follows (session_watch k id) Held c t
      go true b =
          let o = at_own f kept t.sessions h in
          record {
            slot = rw (fd, b, s t, eqb-true j k b) (rw (step_if, so (only x), at_only f x) (ap only o.0));
            answer =
                rw (fd, b, s t, hr, b) (rw (
                  answer_if,
                  so (only x),
                  hra,
                  b,
                  at-answer f j t.sessions,
                  at-answer f 0 (x ∷ []),
                  eqb-true j k b,
                ) refl);
            on = rw (s t, eqb-true j k b) o.1;
          }
      go false b = passes c t (rw (fd, b) refl) (λ z. rw (hr z, b) refl) (rw (s t) (at_other f kept t.sessions h j b))

  pub follows : (c : Call) (t : Tables) → Held t → Follows (session_watch k id) Held c t
  unfolding step
  follows (listen com_id senders u) t h = grind arith
  follows (unlisten j) t h = grind arith
  follows (calling i timeout time) t h =
      passes (calling i timeout time) t refl (λ a. refl) (opening-leaves opened _ i _ t.sessions refl h)
  follows (telegram a d) t h = go (judged a d) refl
    where
      go : (j : Judged) → judged a d ≡ j → Follows (session_watch k id) Held (telegram a d) t
      go (refusal r) e = passes (telegram a d) t (rw e refl) (λ z. rw e refl) (rw e (same-leaves t.sessions h))
      go (passed hd) e = by_kind a d hd e t h (kind_of hd.type) refl
  follows (reply j type timeout time) t h = go (is_reply type) refl
    where
      go : (b : Bool) → is_reply type ≡ b → Follows (session_watch k id) Held (reply j type timeout time) t
      go true b =
          by-naming (reply j type timeout time) (reply 0 type timeout time) j
          (at_session is_with_user replied (answered type timeout time))
          (λ x. kept_at is_with_user replied (answered type timeout time) x (kept-answered type timeout time x)) refl
          (λ a. refl) (λ a. refl) (λ u. rw b refl) (λ u. rw b refl) t h
      go false b = refuses (eqb j k) refl
        where
          c : Call
          c = reply j type timeout time

          refuses : (q : Bool) → eqb j k ≡ q → Follows (session_watch k id) Held c t
          refuses true q =
              record {
                slot = rw (q, b) (rw (step_if, b) refl);
                answer = rw (q, b) (rw (answer_if, q) refl);
                on = rw b (inr h);
              }
          refuses false q = passes c t (rw q refl) (λ z. rw q refl) (rw b (same-leaves t.sessions h))
  follows (confirm j) t h =
      by-naming (confirm j) (confirm 0) j (at_session owes_confirm confirmed ended) (λ x. kept_at owes_confirm confirmed
      ended x (λ b. kept-ended x)) refl (λ a. refl) (λ a. refl) (λ u. refl) (λ u. refl) t h
  follows (time_check time) t h =
      record {
        slot = rw (get_or-map (expired time) t.sessions k free_session) refl;
        answer = rw (get_or-map {B = ℤ} (λ x. code_of time x.state) t.sessions k free_session) refl;
        on = checked time t.sessions h;
      }

-- ---- from the opening on

apart : {X : Type 0} (k : ℕ) → ◌≡◌ {A = Option ℕ} none (some k) → X
apart k e = grind arith

-- a call that opens a session of an identifier, the listeners being those of t
record Opens (c : Call) (t : Tables) (k : ℕ) : Type 0 where
  given : ℕ → Answer
  full : Answer
  id : List ℕ
  state : SessionState
  id-is : id ≡ identifier c
  busy : is_free state ≡ false
  number : (j : ℕ) → opened_at (given j) ≡ some j
  kept-number : numbered k (given 0) ≡ given k
  none-full : opened_at full ≡ none
  step_is : (xs : List Session) → step c (record { listeners = t.listeners; sessions = xs })
      ≡ with_sessions t.listeners (opening given full id state xs)

heard-id : (a : Arrival) (d : List ℕ) (hd : Heard) → judged a d ≡ passed hd → hd.id ≡ session_id_of d
unfolding judged
heard-id a d hd e = by (first_of (md_checks a d)) e
  where
    by : (v : Result (Unit {0}) Refusal) → judged_by v (heard_of a d) ≡ passed hd → hd.id ≡ session_id_of d
    by (Ok v) q = let z : heard_of a d ≡ hd = cc in sym (ap (λ h. h.id) z)
    by (Err r) q = grind arith

-- answers that open nothing
listen-none : (e : Option Answer) (o : Option ℕ) (l : Listener) (ls : List Listener)
    → ((a : Answer) → e ≡ some a → opened_at a ≡ none)
    → opened_at (grant e o (refused_plain NoFreeSlot) listening l ls).answer ≡ none
unfolding grant
listen-none e o l ls f = grind arith

earlier-none : (v : Result (Unit {0}) Refusal) (a : Answer) → earlier v ≡ some a → opened_at a ≡ none
earlier-none v a e = grind arith

-- a telegram that passed opens a session only where it is an Mr that a listener hears
opens-telegram : (a : Arrival) (d : List ℕ) (hd : Heard) → judged a d ≡ passed hd → (t : Tables) (k : ℕ) (kind : Kind)
    → kind_of hd.type ≡ kind
    → opened_at (step (telegram a d) t).answer ≡ some k → Opens (telegram a d) t k
unfolding step
opens-telegram a d hd e t k Mn q o = grind arith
opens-telegram a d hd e t k Mr q o =
    by (lowest (Listeners.hears hd.com_id hd.sender hd.destination) t.listeners) refl (rw (e, q) at o)
  where
    by : (l : Option ℕ) → lowest (Listeners.hears hd.com_id hd.sender hd.destination) t.listeners ≡ l
        → opened_at (requesting l hd t.sessions).answer ≡ some k → Opens (telegram a d) t k
    by none m z = apart k z
    by (some l) m z =
        record {
          given = requested l;
          full = refused NoFreeSession (negsuc 3);
          id = hd.id;
          state = WithUser (record { start = hd.time; timeout = hd.timeout });
          id-is = heard-id a d hd e;
          busy = refl;
          number = λ j. refl;
          kept-number = refl;
          none-full = refl;
          step_is = λ xs. rw (e, q, m) refl;
        }
opens-telegram a d hd e t k Mp q o = grind arith
opens-telegram a d hd e t k Mq q o = grind arith
opens-telegram a d hd e t k Mc q o = grind arith
opens-telegram a d hd e t k Me q o = grind arith

opens : (c : Call) (t : Tables) (k : ℕ) → opened_at (step c t).answer ≡ some k → Opens c t k
unfolding step at_slot
opens (listen com_id senders u) t k o =
    apart k
    (sym (listen-none (earlier (first_of (listen_checks com_id senders u t.listeners)))
    (lowest (λ l. not l.used) t.listeners) (Listeners.new_listener com_id senders u) t.listeners
    (earlier-none (first_of (listen_checks com_id senders u t.listeners))))
    ∙ o)
opens (unlisten j) t k o = grind arith
opens (calling i timeout time) t k o =
    record {
      given = opened;
      full = refused_plain NoFreeSession;
      id = i;
      state = WaitingForReply (record { start = time; timeout = timeout });
      id-is = refl;
      busy = refl;
      number = λ j. refl;
      kept-number = refl;
      none-full = refl;
      step_is = λ xs. refl;
    }
opens (telegram a d) t k o = by (judged a d) refl
  where
    by : (j : Judged) → judged a d ≡ j → Opens (telegram a d) t k
    by (refusal r) e = apart k (rw e at o)
    by (passed hd) e = opens-telegram a d hd e t k (kind_of hd.type) refl o
opens (reply j type timeout time) t k o = grind arith
opens (confirm j) t k o = grind arith
opens (time_check time) t k o = apart k o

-- what an opening did
record Given (given : ℕ → Answer) (full : Answer) (i : List ℕ) (state : SessionState) (xs : List Session)
    (k : ℕ) : Type 0 where
  new : any (has i) xs ≡ false
  at : lowest is_free_session xs ≡ some k
  leaves : (opening given full i state xs).after ≡ set xs k (record { id = i; state = state })
  answers : (opening given full i state xs).answer ≡ given k

given-at : (given : ℕ → Answer) (full : Answer) (i : List ℕ) (state : SessionState) (xs : List Session) (k : ℕ)
    → ((j : ℕ) → opened_at (given j) ≡ some j) → opened_at full ≡ none
    → opened_at (opening given full i state xs).answer ≡ some k → Given given full i state xs k
unfolding grant
given-at given full i state xs k n f o = grind arith

new-has : (i : List ℕ) (state : SessionState) → is_free state ≡ false → has i (record { id = i; state = state }) ≡ true
unfolding has
new-has i state b = rw (b, equal-refl i) refl

-- a session that was just opened is the only one of its identifier
has_new : (i : List ℕ) (state : SessionState) (xs : List Session) (k : ℕ) → is_free state ≡ false → k < length xs
    → any (has i) xs ≡ false
    → Has k i (set xs k (record { id = i; state = state }))
has_new i state xs k b lt e =
    let y : Session = record { id = i; state = state } in
    let at : get_or (set xs k y) k free_session ≡ y = get_or-set_same xs k y free_session lt in
    record {
      lt = rw (length-set xs k y) lt;
      own = rw at own;
      unique =
          λ j m. rw (get_or-set_other xs k j y free_session m) (any_false (has i) free_session xs j e (free-has i));
    }
  where
    own : has i (record { id = i; state = state }) ≡ true
    own = new-has i state b

-- the only session of a table of one
alone-opens : (given : ℕ → Answer) (full : Answer) (i : List ℕ) (state : SessionState)
    → opening given full i state (free_session ∷ [])
    ≡ record { answer = given 0; after = record { id = i; state = state } ∷ [] }
unfolding grant has
alone-opens given full i state = refl

-- an opening after any list of calls: its answer and the session are those of the session alone, and the session is
-- held
pub opened-held : (m n : ℕ) (before : List Call) (c : Call) (k : ℕ)
    → let t = run step before (empty_tables m n) in
    let o = step c t in
    let alone = step c (record { listeners = t.listeners; sessions = free_session ∷ [] }) in
    opened_at o.answer ≡ some k
    → (o.answer ≡ numbered k alone.answer) × (slot_at k o.after ≡ slot_at 0 alone.after) × Held k (identifier c) o.after
opened-held m n before c k o =
    let t : Tables = run step before (empty_tables m n) in
    let p : Opens c t k = opens c t k o in
    let y : Session = record { id = p.id; state = p.state } in
    let s : step c t ≡ with_sessions t.listeners (opening p.given p.full p.id p.state t.sessions) =
    p.step_is t.sessions in
    let g : Given p.given p.full p.id p.state t.sessions k =
    given-at p.given p.full p.id p.state t.sessions k p.number p.none-full (rw s at o) in
    let lt : k < length t.sessions = (lowest-is is_free_session free_session t.sessions k g.at).0 in
    let h : Has k p.id (set t.sessions k y) = has_new p.id p.state t.sessions k p.busy lt g.new in
    let at : get_or (set t.sessions k y) k free_session ≡ y = get_or-set_same t.sessions k y free_session lt in
    rw (s, p.step_is (free_session ∷ []), g.answers, g.leaves, alone-opens p.given p.full p.id p.state, ← p.id-is)
    (sym p.kept-number, ap (λ x. record { listeners = []; sessions = x ∷ [] }) at, h)

pub one-session : OneSession
one-session m n before after c k o =
    let g = opened-held m n before c k o in
    let u : Tables = (step c (run step before (empty_tables m n))).after in
    let id = identifier c in
    (g.0, g.1, rw g.1 at (same-watch (session_watch k id) (Held k id) (follows k id) after u g.2))
