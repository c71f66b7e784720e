-- What the code of each rule has found, and the rule that it follows.
-- Assumes nothing.
use mathlib.Core.Path.{◌≡◌, refl, sym, ap, ap₂, subst, ◌∙◌}
use mathlib.Core.Bool.{Bool, true, false, not, ◌&&◌}
use mathlib.Core.List.{List, [], ◌∷◌}
use mathlib.Core.Option.{Option, none, some}
use Prim.Native.Nat.{ℕ}
use lib.Dec.{eqb}
use borrow.Author.Tests.{eqb-true}
use Rattle.md.specs.Uri.{equal}
use lib.IntN.{ℤ, negsuc}
use lib.ListN.{get_or, set}
use Rattle.std.specs.Prelude.{Ok, Err, Result}
use Rattle.refusal.specs.declared.Refusal.{Refusal}
use Rattle.refusal.specs.declared.Refusal.TheVariants.{NoMatch, NoSession, NoFreeSession}
use Rattle.refusal.proofs.Answer.{opened}
use Rattle.refusal.specs.Refusal.{first_of}
use Rattle.arrival.specs.declared.Arrival.{Arrival}
use Rattle.tables.specs.Trace.{Outcome}
use Rattle.tables.specs.Lists.{lowest}
use Rattle.tables.proofs.Lists.{lowest-is}
use Rattle.md.specs.declared.MdHeader.{MdHeader}
use Rattle.md.specs.Md.{header_of, session_id_of, destination_uri_of}
use Rattle.session.specs.declared.Session.{Session}
use Rattle.session.specs.declared.SessionState.{SessionState}
use Rattle.session.specs.declared.SessionState.TheVariants.{WithUser, OwingConfirm}
use Rattle.session.specs.declared.Kind.{Kind}
use Rattle.session.specs.declared.Kind.TheVariants.{Mp, Mq, Mc, Me}
use Rattle.session.specs.Session.{free_session, is_free, has, can_take, waits_for_reply, waits_for_confirm}
use mathlib.Core.Logic.{◌⊎◌, inl, inr}
use denote.Ref.{Bor}
use Rattle.session_table.specs.Table as table
use Rattle.session_table.specs.Table.{Tables, Heard, Judged, heard_of, hearing, all_in_use, notifying, requesting, taken_at, taking, owing, arriving, arriving_at, kind_of, telegram, with_sessions, opening, refused_plain, md_checks}
use Rattle.session_table.proofs.Judged.{taken, not_passed, passes-all, refused-step}
use Rattle.session_table.proofs.Rules.{opening-given, opening-full, opening-in-use}
use Rattle.packed.specs.Packed.{tables_of}
use Rattle.packed_slots.specs.Slots.{PutsSession, Places}
use Rattle.packed_slots.specs.Calls.{with_session, Follows}
use Rattle.packed_slots.proofs.Left.{wrote-session, opens-left, opens-means, follows, refused}
use Rattle.messages.specs.declared.Message.{Message}
use Rattle.messages.specs.Arriving.{heard_by, Gives}

-- ---- the rules, by what was found

module _ (o : List ℕ) (h : Heard) where
  -- the listener that hears it
  abbrev by : Option ℕ
  by = hearing h (tables_of o).listeners

  pub unheard : by ≡ none → Gives o (notifying by (tables_of o).sessions) (refused_plain NoMatch) o
  unheard e = rw e (record { answers = refl; means = refl; leaves = λ c. refl })

  pub heard : (l : ℕ) → by ≡ some l → Gives o (notifying by (tables_of o).sessions) (table.notified l) o
  heard l e = rw e (record { answers = refl; means = refl; leaves = λ c. refl })

  pub unrequested : by ≡ none → Gives o (requesting by h (tables_of o).sessions) (table.refused NoMatch (negsuc 2)) o
  unrequested e = rw e (record { answers = refl; means = refl; leaves = λ c. refl })

  module _ (l : ℕ) (e : by ≡ some l) (p : Result ℕ Refusal) (o' : List ℕ)
      (w : Places h.id (WithUser (record { start = h.time; timeout = h.timeout })) o p o') where
    abbrev state : SessionState
    state = WithUser (record { start = h.time; timeout = h.timeout })

    abbrev rule : Outcome table.Answer (List Session)
    rule = opening (table.requested l) all_in_use h.id state (tables_of o).sessions

    requests : (a : table.Answer) → a ≡ rule.answer → Gives o (requesting by h (tables_of o).sessions) a o'
    requests a said =
        rw e
        (record {
          answers = said;
          means = opens-means o (table.requested l) all_in_use h.id state p o' w;
          leaves = λ c. opens-left o c (table.requested l) all_in_use (λ k t. refl) (λ t. refl) h.id state p o' w;
        })

    pub requested : (k : ℕ) → p ≡ Ok k → Gives o (requesting by h (tables_of o).sessions) (table.requested l k) o'
    requested k q =
        requests (table.requested l k)
        (sym (opening-given (table.requested l) all_in_use h.id state (tables_of o).sessions k (sym q ∙ w.place)))

    pub full : p ≡ Err NoFreeSession → Gives o (requesting by h (tables_of o).sessions) all_in_use o'
    full q =
        requests all_in_use
        (sym (opening-full (table.requested l) all_in_use h.id state (tables_of o).sessions (sym q ∙ w.place)))

    pub in-use : (r : Refusal) → (r ≡ NoFreeSession → ⊥) → p ≡ Err r
        → Gives o (requesting by h (tables_of o).sessions) (refused_plain r) o'
    in-use r n q =
        requests (refused_plain r)
        (sym (opening-in-use (table.requested l) all_in_use h.id state (tables_of o).sessions r n (sym q ∙ w.place)))

  module _ (in' : SessionState → Bool) (g : Session → Session) where
    -- the session that can take it
    abbrev at : Option ℕ
    at = lowest (can_take in' h.id) (tables_of o).sessions

    pub untaken : at ≡ none → Gives o (taking in' g h (tables_of o).sessions) (refused_plain NoSession) o
    untaken e = rw e (record { answers = refl; means = refl; leaves = λ c. refl })

    pub takes : (k : ℕ) → at ≡ some k → (y : Session) → y ≡ g (get_or (tables_of o).sessions k free_session) → (s : ℤ)
        → s ≡ h.status → (o' : List ℕ) → PutsSession k y o o'
        → Gives o (taking in' g h (tables_of o).sessions) (table.taken s k) o'
    takes k e y w s z o' p =
        let after : Session → Tables =
        λ (x : Session). record { listeners = (tables_of o).listeners; sessions = set (tables_of o).sessions k x } in
        rw e
        (record {
          answers = ap (λ (x : ℤ). table.taken x k) z;
          means = p.means ∙ ap after w;
          leaves =
              λ c. p.written ∙ wrote-session o k y (tables_of o).listeners ∙ ap (λ (x : Session). with_session k (after x) o) w;
        })

-- a session that can take it has its identifier
equal-same : (s t : List ℕ) → equal s t ≡ true → s ≡ t
equal-same [] [] e = refl
equal-same [] (y ∷ t) e = cc
equal-same (x ∷ s) [] e = cc
equal-same (x ∷ s) (y ∷ t) e = go (eqb x y) refl (equal-same s t) e
  where
    go : (b : Bool) → eqb x y ≡ b → (equal s t ≡ true → s ≡ t) → b && equal s t ≡ true
        → ◌≡◌ {A = List ℕ} (x ∷ s) (y ∷ t)
    go true q more f = ap₂ ◌∷◌ (eqb-true x y q) (more f)
    go false q more f = cc

identified : (in' : SessionState → Bool) (id : List ℕ) (x : Session) → can_take in' id x ≡ true → x.id ≡ id
unfolding has
identified in' id x e = equal-same x.id id (go (not (is_free x.state)) (equal x.id id) (in' x.state) e)
  where
    go : (b c d : Bool) → (b && c) && d ≡ true → c ≡ true
    go true true d f = refl
    go true false d f = f
    go false c d f = cc

-- Mq leaves the session its identifier, which is the telegram's
module _ (h : Heard) (in' : SessionState → Bool) where
  abbrev pub owed : Session
  owed = record { id = h.id; state = OwingConfirm (record { start = h.time; timeout = h.timeout }) }

  pub owing-same : (xs : List Session) → taking in' (λ x. owed) h xs ≡ taking in' (owing h) h xs
  owing-same xs = go (lowest (can_take in' h.id) xs) refl
    where
      go : (l : Option ℕ) → lowest (can_take in' h.id) xs ≡ l
          → taken_at l (λ x. owed) h.status xs ≡ taken_at l (owing h) h.status xs
      go none e = refl
      go (some k) e =
          ap
          (λ (i : List ℕ).
          record {
            answer = table.taken h.status k;
            after = set xs k (record { id = i; state = OwingConfirm (record { start = h.time; timeout = h.timeout }) });
          })
          (sym (identified in' h.id (get_or xs k free_session) (lowest-is (can_take in' h.id) free_session xs k e).1))

-- ---- the rule of a type that looks at sessions only

module _ (o : List ℕ) (h : Heard) (l : Option ℕ) (a : table.Answer) (o' : List ℕ) (k : Kind) where
  abbrev xs : List Session
  xs = (tables_of o).sessions

  -- what a session becomes, by another name of it
  named : (in' : SessionState → Bool) (y z : Session) → y ≡ z → Gives o (taking in' (λ x. y) h xs) a o'
      → Gives o (taking in' (λ x. z) h xs) a o'
  named in' y z e = subst (λ (w : Session). Gives o (taking in' (λ x. w) h xs) a o') e

  pub by_reply : (k ≡ Mp) ⊎ (k ≡ Me) → (y : Session) → y ≡ free_session
      → Gives o (taking waits_for_reply (λ x. y) h xs) a o' → Gives o (arriving k l h xs) a o'
  by_reply (inl e) y f w = rw e (named waits_for_reply y free_session f w)
  by_reply (inr e) y f w = rw e (named waits_for_reply y free_session f w)

  pub by_confirm : k ≡ Mc → (y : Session) → y ≡ free_session → Gives o (taking waits_for_confirm (λ x. y) h xs) a o'
      → Gives o (arriving k l h xs) a o'
  by_confirm e y f w = rw e (named waits_for_confirm y free_session f w)

  pub by_mq : k ≡ Mq → (y : Session) → y ≡ owed h waits_for_reply → Gives o (taking waits_for_reply (λ x. y) h xs) a o'
      → Gives o (arriving k l h xs) a o'
  by_mq e y f w =
      rw e
      (subst (λ (q : Outcome table.Answer (List Session)). Gives o q a o') (owing-same h waits_for_reply xs)
      (named waits_for_reply y (owed h waits_for_reply) f w))

-- ---- a datagram

module _ (a : Arrival) (d : List ℕ) where
  -- one that was refused
  pub refused-follows : (o : List ℕ) (r : Refusal) → taken a d ≡ Err r → Follows (telegram a d) o (refused_plain r) o
  refused-follows o r e = refused (telegram a d) o r (refused-step a d (tables_of o) r (not_passed a d r e))

  -- one that passed: what the code hands on is what the rules hear
  module _ (x : MdHeader) (e : taken a d ≡ Ok x) (id : List ℕ) (s : ℤ) (u : Bor (List ℕ)) where
    abbrev message : Message
    message =
        record {
          msg_type = x.common.msg_type;
          com_id = x.common.com_id;
          sender = a.sender;
          time = a.time;
          id = id;
          status = s;
          timeout = x.reply_timeout;
          destination = u;
        }

    abbrev ruled : Tables → Outcome table.Answer (List Session)
    ruled t = let h = heard_by message in arriving (kind_of h.type) (hearing h t.listeners) h t.sessions

    module _ (i : id ≡ session_id_of d) (g : u.now ≡ destination_uri_of d) (k : s ≡ x.reply_status) where
      same : heard_of a d ≡ heard_by message
      same = rw (i, g, k, ← (opened (first_of (md_checks a d)) (header_of d) x e).1) refl

      passed-step : (t : Tables) → table.step (telegram a d) t ≡ with_sessions t.listeners (ruled t)
      unfolding table.step
      passed-step t = ap (λ (j : Judged). arriving_at j t) (passes-all a d x e ∙ ap table.passed same)

      pub passed-follows : (o o' : List ℕ) (r : table.Answer) → Gives o (ruled (tables_of o)) r o'
          → Follows (telegram a d) o r o'
      passed-follows o o' r w =
          follows (telegram a d) o r o' _ (passed-step (tables_of o)) w.answers w.means (w.leaves (telegram a d))
