-- Demand 3 for sessions: over every list of calls the table is its sessions alone, side by side.
-- Assumes nothing.
use mathlib.Core.Path.{◌≡◌, refl, sym, ap, ◌∙◌}
use mathlib.Core.Logic.{◌≢◌, inr}
use mathlib.Core.Bool.{Bool, true, false, cond, false≢true}
use mathlib.Core.List.{List, [], ◌∷◌, map}
use mathlib.Core.Option.{Option, none, some}
use native.Mathlib.Omega.{arith}
use Prim.Native.Nat.{ℕ, ◌<◌}
use lib.Dec.{eqb}
use lib.ListN.{length, get_or, set, replicate, get_or-map, length-map}
use lib.Seq.{get_or-set_other, set-get_or, map-set_same}
use Rattle.refusal.specs.declared.Refusal.TheVariants.{SessionInUse, NoFreeSession}
use Rattle.md.specs.Uri.{equal}
use Rattle.arrival.specs.declared.Arrival.{Arrival}
use Rattle.tables.specs.Lists.{any, lowest, grant, at_slot}
use Rattle.tables.specs.Trace.{Outcome}
use Rattle.tables.proofs.Trace.{same-trace}
use Rattle.tables.proofs.Lists.{mapped, set-map, grant-map, any-each, lowest-each, map_at, map_each, at_slot-at}
use Rattle.tables.proofs.Lists.{map-replicate, get_d-alike, lowest-is, lowest-none, none_pass, lowest-only, fact-set}
use Rattle.tables.proofs.Lists.{any_false, eqb-other}
use Rattle.session.specs.declared.Session.{Session}
use Rattle.session.specs.declared.SessionState.{SessionState}
use Rattle.session.specs.declared.SessionState.TheVariants.{WaitingForReply, WithUser}
use Rattle.session_table.specs.Table.{Tables}
use Rattle.session.specs.Listener.{free_listener}
use Rattle.session.specs.Session.{free_session, is_free, waits_for_reply, owes_confirm, is_with_user, waits_for_confirm}
use Rattle.session.specs.Session.{has, code_of, expired}
use Rattle.session.specs.Session.{can_take, answered, is_reply}
use Rattle.session.specs.declared.Kind.TheVariants.{Mn, Mr, Mp, Mq, Mc, Me}
use Rattle.session_table.specs.Table.{Call, listen, unlisten, calling, telegram, reply, confirm, time_check, Answer}
use Rattle.session_table.specs.Table.{opened, requested, replied, confirmed, codes, refused_plain, all_in_use, Heard}
use Rattle.session_table.specs.Table.{Judged, refusal, passed, judged, Kind, kind_of, opening, taken_at, taking, ended}
use Rattle.session_table.specs.Table.{owing, at_session, with_sessions, notifying, requesting, arriving, hearing, step}
use Rattle.session_table.specs.Table.{empty_tables}
use Rattle.isolation.specs.Alone.{numbered}
use Rattle.isolation.specs.Beside.{Fed, arrived, replying, confirming, checked, own, Slot, free, held, single, alone}
use Rattle.isolation.specs.Beside.{only, said, feed, Slots, session_of, joined, vacant, is_of, opening_beside}
use Rattle.isolation.specs.Beside.{taking_beside, requesting_beside, heard_beside, arriving_beside, code_in, beside}
use Rattle.isolation.specs.Beside.{empty_slots, SideBySide}
use Rattle.std.proofs.lemmas.Bool.{and_parts, eqb-true}
use Rattle.isolation.proofs.Identifiers.{equal-same}
use Rattle.isolation.proofs.Kept.{Kept, has-busy, kept-ended, kept-owing, kept-answered, kept_at, kept-expired}

-- ---- the types that a session takes

-- the states in which a session takes it and the session after it; the table's rule and the model's
record Takes (kind : Kind) (h : Heard) : Type 0 where
  in' : SessionState → Bool
  to : Session → Session
  kept : (x : Session) → is_free x.state ≡ false → Kept x (to x)
  table : (o : Option ℕ) (xs : List Session) → arriving kind o h xs ≡ taking in' to h xs
  model : (o : Option ℕ) (f : Fed) (ss : List Slot)
      → heard_beside kind o h f ss ≡ taking_beside (lowest (is_of h.id) ss) f ss

-- an Mn, an Mr, or one that a session takes
data Sorted (kind : Kind) (h : Heard) : Type 0 where
  notice : kind ≡ Mn → Sorted kind h
  request : kind ≡ Mr → Sorted kind h
  takes : Takes kind h → Sorted kind h

takes-by : {kind : Kind} {h : Heard} (in' : SessionState → Bool) (to : Session → Session)
    → ((x : Session) → is_free x.state ≡ false → Kept x (to x))
    → ((o : Option ℕ) (xs : List Session) → arriving kind o h xs ≡ taking in' to h xs)
    → ((o : Option ℕ) (f : Fed) (ss : List Slot)
    → heard_beside kind o h f ss ≡ taking_beside (lowest (is_of h.id) ss) f ss)
    → Sorted kind h
takes-by in' to kept table model = takes (record { in' = in'; to = to; kept = kept; table = table; model = model })

sorted : (kind : Kind) (h : Heard) → Sorted kind h
sorted Mn h = notice refl
sorted Mr h = request refl
sorted Mp h = takes-by waits_for_reply ended (λ x b. kept-ended x) (λ o xs. refl) (λ o f ss. refl)
sorted Mq h = takes-by waits_for_reply (owing h) (kept-owing h) (λ o xs. refl) (λ o f ss. refl)
sorted Mc h = takes-by waits_for_confirm ended (λ x b. kept-ended x) (λ o xs. refl) (λ o f ss. refl)
sorted Me h = takes-by waits_for_reply ended (λ x b. kept-ended x) (λ o xs. refl) (λ o f ss. refl)

-- ---- one session, the table's only one

-- the session after a call
abbrev next : Fed → Session → Session
next f x = get_or (step (own f) (single x)).after.sessions 0 free_session

-- its answer and the session
abbrev stepped : Fed → Session → Outcome Answer Session
stepped f x = record { answer = (step (own f) (single x)).answer; after = next f x }

module _ (a : Arrival) (d : List ℕ) (h : Heard) (e : judged a d ≡ passed h) where
  arrives : (u : Tables) → step (telegram a d) u
      ≡ with_sessions u.listeners (arriving (kind_of h.type) (hearing h u.listeners) h u.sessions)
  unfolding step
  arrives u = rw e refl

  alone-takes : (t : Takes (kind_of h.type) h) (x : Session) (b : Bool) → can_take t.in' h.id x ≡ b
      → step (telegram a d) (single x) ≡ with_sessions [] (taken_at (cond b (some 0) none) t.to h.status (x ∷ []))
  alone-takes t x b c = rw (arrives (single x), t.table (hearing h []) (x ∷ []), c) refl

-- one session is left, free or with its identifier
abbrev Stays : Fed → Session → Type 0
Stays f x = ((step (own f) (single x)).after ≡ single (next f x)) × Kept x (next f x)

stays : (f : Fed) (x y : Session) → (step (own f) (single x)).after ≡ single y → Kept x y → Stays f x
stays f x y e k = rw e (refl, k)

kept_same : (x : Session) → Kept x x
unfolding Kept
kept_same x = inr (refl, refl)

one : (f : Fed) (x : Session) → Stays f x
unfolding step at_slot
one (arrived a d) x = go (judged a d) refl
  where
    go : (j : Judged) → judged a d ≡ j → Stays (arrived a d) x
    go (refusal r) e = stays (arrived a d) x x (rw e refl) (kept_same x)
    go (passed h) e = by (sorted (kind_of h.type) h)
      where
        by : Sorted (kind_of h.type) h → Stays (arrived a d) x
        by (notice q) = stays (arrived a d) x x (rw (e, q) refl) (kept_same x)
        by (request q) = stays (arrived a d) x x (rw (e, q) refl) (kept_same x)
        by (takes t) = took (can_take t.in' h.id x) refl
          where
            took : (b : Bool) → can_take t.in' h.id x ≡ b → Stays (arrived a d) x
            took true b =
                stays (arrived a d) x (t.to x) (rw (alone-takes a d h e t x true b) refl)
                (t.kept x (has-busy h.id x ((and_parts (has h.id x) (t.in' x.state) b).0)))
            took false b = stays (arrived a d) x x (rw (alone-takes a d h e t x false b) refl) (kept_same x)
one (replying type timeout time) x = go (is_reply type) refl
  where
    go : (b : Bool) → is_reply type ≡ b → Stays (replying type timeout time) x
    go true b =
        stays (replying type timeout time) x (at_session is_with_user replied (answered type timeout time) x).after
        (rw b refl)
        (kept_at is_with_user replied (answered type timeout time) x (kept-answered type timeout time x))
    go false b = stays (replying type timeout time) x x (rw b refl) (kept_same x)
one confirming x = stays confirming x (at_session owes_confirm confirmed ended x).after refl
    (kept_at owes_confirm confirmed ended x (λ b. kept-ended x))
one (checked time) x = stays (checked time) x (expired time x) refl (kept-expired time x)

stepped-only : (f : Fed) (x : Session) (t : Tables) → t ≡ single x
    → (step (own f) t).after ≡ single (get_or (step (own f) t).after.sessions 0 free_session)
stepped-only f x t e = rw e (one f x).0

-- the session alone is one record
only-is : (s : Slot) → only s ≡ single (session_of s)
unfolding alone
only-is free = refl
only-is (held id state []) = refl
only-is (held id state (f ∷ fs)) =
    stepped-only f (session_of (held id state fs)) (alone id state fs) (only-is (held id state fs))

said-is : (f : Fed) (s : Slot) → said f s ≡ (stepped f (session_of s)).answer
said-is f s = ap (λ t. (step (own f) t).answer) (only-is s)

held-is : (id : List ℕ) (state : SessionState) (f : Fed) (fs : List Fed)
    → session_of (held id state (f ∷ fs)) ≡ next f (session_of (held id state fs))
unfolding alone
held-is id state f fs = ap (λ t. get_or (step (own f) t).after.sessions 0 free_session) (only-is (held id state fs))

-- ---- what the table sees of a slot is what its opening says, while it is not free

pub record Well (s : Slot) : Type 0 where
  vacant-is : is_free (session_of s).state ≡ vacant s
  of_is : (i : List ℕ) → has i (session_of s) ≡ is_of i s

well-free : Well free
unfolding has
well-free = grind arith

well-new : (id : List ℕ) (state : SessionState) → is_free state ≡ false → Well (held id state [])
unfolding alone has
well-new id state b = grind arith

kept_free : (y : Session) → Kept free_session y → y ≡ free_session
unfolding Kept
kept_free y h = grind arith

kept-freed : (x y : Session) → is_free x.state ≡ false → is_free y.state ≡ true → Kept x y → y ≡ free_session
unfolding Kept
kept-freed x y b c h = grind arith

kept-has : (i : List ℕ) (x y : Session) → is_free y.state ≡ false → Kept x y → has i y ≡ has i x
unfolding Kept has
kept-has i x y c h = grind arith

-- a slot that is fed: the session alone, one call on
feeding : (f : Fed) (s : Slot) → Well s → Well (feed f s) × (session_of (feed f s) ≡ next f (session_of s))
feeding f free w = (w, sym (kept_free (next f free_session) (one f free_session).1))
feeding f (held id state fs) w = go (is_free (session_of z).state) refl
  where
    x : Session
    x = session_of (held id state fs)

    z : Slot
    z = held id state (f ∷ fs)

    kept : Kept x (session_of z)
    kept = rw (held-is id state f fs) (one f x).1

    go : (b : Bool) → is_free (session_of z).state ≡ b → Well (cond b free z) × (session_of (cond b free z) ≡ next f x)
    go true b = (well-free, sym (kept-freed x (session_of z) w.vacant-is b kept) ∙ held-is id state f fs)
    go false b =
        (record { vacant-is = b; of_is = λ i. kept-has i x (session_of z) b kept ∙ w.of_is i }, held-is id state f fs)

-- no identifier is that of both
abbrev pub Apart : Slot → Slot → Type 0
Apart s t = (i : List ℕ) → is_of i s ≡ true → is_of i t ≡ false

-- each slot is as its opening says, and no two have one identifier
pub record Good (ss : List Slot) : Type 0 where
  well : (j : ℕ) → Well (get_or ss j free)
  apart : (j k : ℕ) → j ≢ k → Apart (get_or ss j free) (get_or ss k free)

-- ---- call by call

opening-is : (given : ℕ → Answer) (full : Answer) (id : List ℕ) (state : SessionState) (ss : List Slot) → Good ss
    → opening given full id state (map session_of ss) ≡ mapped session_of (opening_beside given full id state ss)
unfolding alone
opening-is given full id state ss g =
    rw (
      any-each session_of free (has id) (is_of id) ss (λ j. (g.well j).of_is id),
      lowest-each session_of free (λ x. is_free x.state) vacant ss (λ j. (g.well j).vacant-is),
    )
    (grant-map session_of (cond (any (is_of id) ss) (some (refused_plain SessionInUse)) none) (lowest vacant ss)
    full given (held id state []) ss)

-- a call that names slot k
named-is : (f : Fed) (k : ℕ) (ss : List Slot) → Good ss
    → at_slot free_session (stepped f) k (map session_of ss)
    ≡ mapped session_of (at_slot free (λ s. record { answer = said f s; after = feed f s }) k ss)
named-is f k ss g =
    let s : Slot = get_or ss k free in
    at_slot-at session_of free (stepped f) (λ s'. record { answer = said f s'; after = feed f s' }) k ss
    (λ i. record { answer = sym (said-is f s) i; after = sym (feeding f s (g.well k)).1 i })

reply-names : (k type timeout time : ℕ) (t : Tables)
    → step (reply k type timeout time) t ≡ with_sessions t.listeners
    (at_slot free_session (stepped (replying type timeout time)) k t.sessions)
unfolding step at_slot
reply-names k type timeout time t = go (is_reply type) refl
  where
    go : (b : Bool) → is_reply type ≡ b
        → step (reply k type timeout time) t ≡ with_sessions t.listeners
        (at_slot free_session (stepped (replying type timeout time)) k t.sessions)
    go true b = rw b refl
    go false b = rw (b, set-get_or t.sessions k free_session) refl

confirm-names : (k : ℕ) (xs : List Session) → at_slot free_session (at_session owes_confirm confirmed ended) k xs
    ≡ at_slot free_session (stepped confirming) k xs
unfolding step at_slot
confirm-names k xs = refl

-- a time check
checked-is : (time : ℕ) (ss : List Slot) → Good ss
    → ◌≡◌ {A = Outcome Answer (List Session)}
    (record {
      answer = codes (map (λ x. code_of time x.state) (map session_of ss));
      after = map (expired time) (map session_of ss);
    })
    (record {
      answer = codes (map (λ s. code_in (said (checked time) s)) ss);
      after = map session_of (map (feed (checked time)) ss);
    })
unfolding step
checked-is time ss g =
    let all : map (expired time) (map session_of ss) ≡ map session_of (map (feed (checked time)) ss) =
    map_each session_of free (expired time) (feed (checked time)) ss
    (λ j. sym (feeding (checked time) (get_or ss j free) (g.well j)).1) in
    let told : map (λ x. code_of time x.state) (map session_of ss) ≡ map (λ s. code_in (said (checked time) s)) ss =
    map_at session_of free (λ x. code_of time x.state) (λ s. code_in (said (checked time) s)) ss
    (λ j. ap code_in (sym (said-is (checked time) (get_or ss j free)))) in
    λ i. record { answer = codes (told i); after = all i }

-- a reply or a confirm: the one session of its identifier takes it, or none
module _ (a : Arrival) (d : List ℕ) (h : Heard) (e : judged a d ≡ passed h) (t : Takes (kind_of h.type) h)
    (ss : List Slot) (g : Good ss) where
  foreign : (j : ℕ) → is_of h.id (get_or ss j free) ≡ false
      → can_take t.in' h.id (get_or (map session_of ss) j free_session) ≡ false
  foreign j n = rw (get_or-map session_of ss j free, (g.well j).of_is h.id, n) refl

  taking-is : (o : Option ℕ) → lowest (is_of h.id) ss ≡ o
      → taking t.in' t.to h (map session_of ss) ≡ mapped session_of (taking_beside o (arrived a d) ss)
  unfolding at_slot
  taking-is none l =
      rw (none_pass (can_take t.in' h.id) free_session (map session_of ss)
      (λ j. foreign j (any_false (is_of h.id) free ss j (lowest-none (is_of h.id) ss l) refl))) refl
  taking-is (some k) l =
      rw (lowest-only (can_take t.in' h.id) free_session (map session_of ss) k (rw (length-map ss session_of) is.0)
      (λ j m. foreign j (g.apart k j (λ p. m (sym p)) h.id is.1)))
      (rw (get_or-map session_of ss k free) (took (can_take t.in' h.id (session_of s)) refl))
    where
      s : Slot
      s = get_or ss k free

      is : (k < length ss) × (is_of h.id s ≡ true)
      is = lowest-is (is_of h.id) free ss k l

      x : Session
      x = session_of s

      says : (b : Bool) → can_take t.in' h.id x ≡ b
          → said (arrived a d) s ≡ (taken_at (cond b (some 0) none) t.to h.status (x ∷ [])).answer
      says b c = said-is (arrived a d) s ∙ ap (λ o. o.answer) (alone-takes a d h e t x b c)

      steps : (b : Bool) → can_take t.in' h.id x ≡ b
          → session_of (feed (arrived a d) s) ≡ get_or
          (taken_at (cond b (some 0) none) t.to h.status (x ∷ [])).after 0 free_session
      steps b c = (feeding (arrived a d) s (g.well k)).1
          ∙ ap (λ o. get_or o.after.sessions 0 free_session) (alone-takes a d h e t x b c)

      took : (b : Bool) → can_take t.in' h.id (session_of s) ≡ b
          → taken_at (cond b (some k) none) t.to h.status (map session_of ss)
          ≡ record {
            answer = numbered k (said (arrived a d) s);
            after = map session_of (set ss k (feed (arrived a d) s));
          }
      took true b =
          rw (
            says true b,
            get_or-map session_of ss k free,
            ← set-map session_of ss k (feed (arrived a d) s),
            steps true b,
          ) refl
      took false b = rw (says false b, map-set_same session_of ss k (feed (arrived a d) s) free (steps false b)) refl

-- what a telegram answers and leaves
arriving-is : (a : Arrival) (d : List ℕ) (h : Heard) → judged a d ≡ passed h → (o : Option ℕ) (ss : List Slot) → Good ss
    → arriving (kind_of h.type) o h (map session_of ss)
    ≡ mapped session_of (heard_beside (kind_of h.type) o h (arrived a d) ss)
arriving-is a d h e o ss g = by (sorted (kind_of h.type) h)
  where
    notified-is : (o : Option ℕ)
        → notifying o (map session_of ss) ≡ record { answer = (notifying o []).answer; after = map session_of ss }
    notified-is none = refl
    notified-is (some l) = refl

    requested-is : (o : Option ℕ) → requesting o h (map session_of ss) ≡ mapped session_of (requesting_beside o h ss)
    requested-is none = refl
    requested-is (some l) =
        opening-is (requested l) all_in_use h.id (WithUser (record { start = h.time; timeout = h.timeout })) ss g

    by : Sorted (kind_of h.type) h → arriving (kind_of h.type) o h (map session_of ss)
        ≡ mapped session_of (heard_beside (kind_of h.type) o h (arrived a d) ss)
    by (notice q) = rw q (notified-is o)
    by (request q) = rw q (requested-is o)
    by (takes t) = rw (t.table o (map session_of ss), t.model o (arrived a d) ss)
        (taking-is a d h e t ss g (lowest (is_of h.id) ss) refl)

pub agrees : (c : Call) (s : Slots) → Good s.slots
    → step c (joined s) ≡ record { answer = (beside c s).answer; after = joined (beside c s).after }
unfolding step beside
agrees (listen com_id senders u) s g = refl
agrees (unlisten k) s g = refl
agrees (calling id timeout time) s g =
    ap (with_sessions s.listeners) (opening-is opened (refused_plain NoFreeSession) id
    (WaitingForReply (record { start = time; timeout = timeout })) s.slots g)
agrees (telegram a d) s g = go (judged a d) refl
  where
    go : (j : Judged) → judged a d ≡ j
        → step (telegram a d) (joined s) ≡ record {
          answer = (beside (telegram a d) s).answer;
          after = joined (beside (telegram a d) s).after;
        }
    go (refusal r) e = rw e refl
    go (passed h) e = rw e (ap (with_sessions s.listeners) (arriving-is a d h e (hearing h s.listeners) s.slots g))
agrees (reply k type timeout time) s g =
    rw (reply-names k type timeout time (joined s))
    (ap (with_sessions s.listeners) (named-is (replying type timeout time) k s.slots g))
agrees (confirm k) s g =
    ap (with_sessions s.listeners) (confirm-names k (map session_of s.slots) ∙ named-is confirming k s.slots g)
agrees (time_check time) s g = ap (with_sessions s.listeners) (checked-is time s.slots g)

-- ---- what a call keeps

apart-sym : (s t : Slot) → Apart s t → Apart t s
apart-sym s t n i e = grind arith

fed-of : (f : Fed) (i : List ℕ) (s : Slot) → is_of i s ≡ false → is_of i (feed f s) ≡ false
fed-of f i s e = grind arith

apart-fed : (f : Fed) (s t : Slot) → Apart s t → Apart s (feed f t)
apart-fed f s t n i e = fed-of f i t (n i e)

good-set : (ss : List Slot) (k : ℕ) (y : Slot) → Good ss → Well y → ((j : ℕ) → j ≢ k → Apart (get_or ss j free) y)
    → Good (set ss k y)
good-set ss k y g w n =
    record { well = λ j. fact-set Well free ss k j y (g.well j) w; apart = λ j l m. go j l m (eqb j k) refl }
  where
    go : (j l : ℕ) → j ≢ l → (b : Bool) → eqb j k ≡ b → Apart (get_or (set ss k y) j free) (get_or (set ss k y) l free)
    go j l m true b =
        let lk : l ≢ k = λ p. m (eqb-true j k b ∙ sym p) in
        rw (get_or-set_other ss k l y free lk) (fact-set (λ s. Apart s (get_or ss l free)) free ss k j y (g.apart j l m)
        (apart-sym (get_or ss l free) y (n l lk)))
    go j l m false b =
        let jk : j ≢ k = λ p. eqb-other j k b (sym p) in
        rw (get_or-set_other ss k j y free jk)
        (fact-set (λ s. Apart (get_or ss j free) s) free ss k l y (g.apart j l m) (n j jk))

good-fed : (f : Fed) (k : ℕ) (ss : List Slot) → Good ss → Good (set ss k (feed f (get_or ss k free)))
good-fed f k ss g =
    good-set ss k (feed f (get_or ss k free)) g (feeding f (get_or ss k free) (g.well k)).0
    (λ j m. apart-fed f (get_or ss j free) (get_or ss k free) (g.apart j k m))

good-all : (f : Fed) (ss : List Slot) → Good ss → Good (map (feed f) ss)
good-all f ss g =
    record {
      well = λ j. rw (get_or-map (feed f) ss j free) (feeding f (get_or ss j free) (g.well j)).0;
      apart = λ j k m. rw (get_or-map (feed f) ss j free, get_or-map (feed f) ss k free)
          (both (get_or ss j free) (get_or ss k free) (g.apart j k m));
    }
  where
    both : (s t : Slot) → Apart s t → Apart (feed f s) (feed f t)
    both s t n = apart-fed f (feed f s) t (apart-sym t (feed f s) (apart-fed f t s (apart-sym s t n)))

good-opening : (given : ℕ → Answer) (full : Answer) (id : List ℕ) (state : SessionState) (ss : List Slot)
    → is_free state ≡ false → Good ss
    → Good (opening_beside given full id state ss).after
unfolding grant
good-opening given full id state ss b g = go (any (is_of id) ss) refl (lowest vacant ss)
  where
    go : (c : Bool) → any (is_of id) ss ≡ c → (o : Option ℕ)
        → Good (grant (cond c (some (refused_plain SessionInUse)) none) o full given (held id state []) ss).after
    go true e o = g
    go false e none = g
    go false e (some k) =
        good-set ss k (held id state []) g (well-new id state b) (λ j m i q. new j i q (equal id i) refl)
      where
        new : (j : ℕ) (i : List ℕ) → is_of i (get_or ss j free) ≡ true → (c : Bool) → equal id i ≡ c → c ≡ false
        new j i q true c =
            absurd (false≢true (sym (any_false (is_of id) free ss j e refl)
            ∙ ap (λ v. is_of v (get_or ss j free)) (equal-same id i c) ∙ q))
        new j i q false c = refl

good-taking : (o : Option ℕ) (f : Fed) (ss : List Slot) → Good ss → Good (taking_beside o f ss).after
unfolding at_slot
good-taking none f ss g = g
good-taking (some k) f ss g = good-fed f k ss g

good-requesting : (o : Option ℕ) (h : Heard) (ss : List Slot) → Good ss → Good (requesting_beside o h ss).after
good-requesting none h ss g = g
good-requesting (some l) h ss g =
    good-opening (requested l) all_in_use h.id (WithUser (record { start = h.time; timeout = h.timeout })) ss refl g

good-arriving : (kind : Kind) (o : Option ℕ) (h : Heard) (f : Fed) (ss : List Slot) → Good ss
    → Good (heard_beside kind o h f ss).after
good-arriving kind o h f ss g = by (sorted kind h)
  where
    by : Sorted kind h → Good (heard_beside kind o h f ss).after
    by (notice q) = rw q g
    by (request q) = rw q (good-requesting o h ss g)
    by (takes t) = rw (t.model o f ss) (good-taking (lowest (is_of h.id) ss) f ss g)

pub keeps : (c : Call) (s : Slots) → Good s.slots → Good (beside c s).after.slots
unfolding beside at_slot
keeps (listen com_id senders u) s g = g
keeps (unlisten k) s g = g
keeps (calling id timeout time) s g =
    good-opening opened (refused_plain NoFreeSession) id (WaitingForReply (record { start = time; timeout = timeout }))
    s.slots refl g
keeps (telegram a d) s g = go (judged a d)
  where
    go : (j : Judged) → Good (arriving_beside a d j s).after.slots
    go (refusal r) = g
    go (passed h) = good-arriving (kind_of h.type) (hearing h s.listeners) h (arrived a d) s.slots g
keeps (reply k type timeout time) s g = good-fed (replying type timeout time) k s.slots g
keeps (confirm k) s g = good-fed confirming k s.slots g
keeps (time_check time) s g = good-all (checked time) s.slots g

-- ---- the whole list

pub good-empty : (n : ℕ) → Good (replicate n free)
good-empty n =
    record { well = λ j. rw (get_d-alike n j free) well-free; apart = λ j k m i e. rw (get_d-alike n k free) refl }

pub joined-empty : (m n : ℕ) → joined (empty_slots m n) ≡ empty_tables m n
joined-empty m n =
    ap (λ xs. record { listeners = replicate m free_listener; sessions = xs }) (map-replicate session_of n free)

pub sessions-side-by-side : SideBySide
sessions-side-by-side m n calls =
    rw (← joined-empty m n)
    (same-trace step beside joined (λ s. Good s.slots) keeps agrees calls (empty_slots m n) (good-empty n))
