-- A call whose rule is known follows it: what it wrote is what the rule leaves.
-- Assumes nothing.
use mathlib.Core.Path.{◌≡◌, refl, sym, ap, ◌∙◌}
use mathlib.Core.List.{List}
use mathlib.Core.Bool.{Bool, true, false, cond}
use Prim.Native.Nat.{ℕ, ◌<◌}
use native.Mathlib.Omega.{arith}
use lib.Dec.{ltb}
use lib.ListN.{length, get_or, set}
use lib.Seq.{get_or-set_same}
use borrow.Author.Tests.{ltb-true}
use Rattle.tables.specs.Trace.{Outcome}
use Rattle.session.specs.Listener.{free_listener}
use Rattle.session.specs.Session.{free_session}
use Rattle.session.specs.declared.Listener.{Listener}
use Rattle.session.specs.declared.Session.{Session}
use Rattle.session.specs.declared.SessionState.{SessionState}
use Rattle.session_table.specs.Table as table
use Rattle.session_table.specs.Table.{Tables, Call, step, refused_plain, opening}
use Rattle.refusal.specs.declared.Refusal.{Refusal}
use Rattle.refusal.specs.declared.Refusal.TheVariants.{SessionInUse}
use Rattle.std.specs.Prelude.{Result}
use mathlib.Core.Option.{Option, none, some}
use Rattle.tables.specs.Lists.{any, lowest, grant}
use Rattle.session.specs.Session.{is_free, has}
use Rattle.session_table.specs.Calls.{place_of}
use Rattle.session_table.proofs.Rules.{opening-leaves}
use Rattle.packed.specs.Packed.{tables_of, put_listener, put_session}
use Rattle.packed_slots.specs.Slots.{PutsSession, PutsListener, Places, placed_in}
use Rattle.packed_slots.specs.Calls.{with_listener, with_session, left_by, Follows}
use Rattle.packed_slots.proofs.Places.{sessions-long, listeners-long}

-- ---- a record in its slot

module _ (o : List ℕ) (k : ℕ) where
  pub wrote-session : (y : Session) (ls : List Listener)
      → put_session k y o ≡ with_session k (record { listeners = ls; sessions = set (tables_of o).sessions k y }) o
  wrote-session y ls = go (ltb k 16) refl
    where
      go : (b : Bool) → ltb k 16 ≡ b
          → put_session k y o ≡ put_session k (get_or (set (tables_of o).sessions k y) k free_session) o
      go true h =
          let n = sessions-long o in
          let i : k < 16 = ltb-true k 16 h in
          let l : k < length (tables_of o).sessions = omega (arith, n) in
          ap (λ (x : Session). put_session k x o) (sym (get_or-set_same (tables_of o).sessions k y free_session l))
      go false h = rw h refl

  pub wrote-listener : (y : Listener) (xs : List Session)
      → put_listener k y o ≡ with_listener k (record { listeners = set (tables_of o).listeners k y; sessions = xs }) o
  wrote-listener y xs = go (ltb k 16) refl
    where
      go : (b : Bool) → ltb k 16 ≡ b
          → put_listener k y o ≡ put_listener k (get_or (set (tables_of o).listeners k y) k free_listener) o
      go true h =
          let n = listeners-long o in
          let i : k < 16 = ltb-true k 16 h in
          let l : k < length (tables_of o).listeners = omega (arith, n) in
          ap (λ (x : Listener). put_listener k x o) (sym (get_or-set_same (tables_of o).listeners k y free_listener l))
      go false h = rw h refl

-- ---- a session opened, and where it was written

module _ (o : List ℕ) (c : Call) (given : ℕ → table.Answer) (full : table.Answer)
    (slots : (k : ℕ) (t : Tables) → left_by c (given k) t o ≡ with_session k t o)
    (keeps : (t : Tables) → left_by c full t o ≡ o) where
  -- where the identifier is in use or not, and the lowest free session is l
  placed-left : (b : Bool) (l : Option ℕ) (new : Session)
      → let q : Outcome table.Answer (List Session) = grant (cond b (some (refused_plain SessionInUse)) none) l full given new (tables_of o).sessions in
      placed_in (place_of b l) new o ≡ left_by c q.answer
      (record { listeners = (tables_of o).listeners; sessions = q.after }) o
  unfolding grant
  placed-left true l new = refl
  placed-left false none new = sym (keeps _)
  placed-left false (some k) new = wrote-session o k new (tables_of o).listeners ∙ sym (slots k _)

  pub opens-left : (id : List ℕ) (state : SessionState) (p : Result ℕ Refusal) (o' : List ℕ) → Places id state o p o'
      → let q : Outcome table.Answer (List Session) = opening given full id state (tables_of o).sessions in
      o' ≡ left_by c q.answer (record { listeners = (tables_of o).listeners; sessions = q.after }) o
  opens-left id state p o' w =
      let new : Session = record { id = id; state = state } in
      w.writes ∙ ap (λ (r : Result ℕ Refusal). placed_in r new o) w.place
      ∙ placed-left (any (has id) (tables_of o).sessions) (lowest (λ x. is_free x.state) (tables_of o).sessions) new

pub opens-means : (o : List ℕ) (given : ℕ → table.Answer) (full : table.Answer) (id : List ℕ) (state : SessionState)
    (p : Result ℕ Refusal) (o' : List ℕ) → Places id state o p o'
    → tables_of o'
    ≡ record { listeners = (tables_of o).listeners; sessions = (opening given full id state (tables_of o).sessions).after }
opens-means o given full id state p o' w =
    w.means
    ∙ ap (λ (xs : List Session). record { listeners = (tables_of o).listeners; sessions = xs })
    (sym (opening-leaves given full id state (tables_of o).sessions p w.place))

-- ---- a call, by the outcome that its rule has

module _ (c : Call) (o : List ℕ) where
  pub follows : (a : table.Answer) (o' : List ℕ) (q : Outcome table.Answer Tables) → step c (tables_of o) ≡ q
      → a ≡ q.answer → tables_of o' ≡ q.after → o' ≡ left_by c q.answer q.after o → Follows c o a o'
  follows a o' q e said means left =
      record {
        answers = said ∙ ap (λ (p : Outcome table.Answer Tables). p.answer) (sym e);
        means = means ∙ ap (λ (p : Outcome table.Answer Tables). p.after) (sym e);
        leaves = left ∙ ap (λ (p : Outcome table.Answer Tables). left_by c p.answer p.after o) (sym e);
      }

  -- a refused call writes nothing
  pub refused : (r : Refusal) → step c (tables_of o) ≡ record { answer = refused_plain r; after = tables_of o }
      → Follows c o (refused_plain r) o
  refused r e = follows (refused_plain r) o _ e refl refl refl

  module _ (a : table.Answer) (k : ℕ) (o' : List ℕ) where
    pub wrote : (y : Session) → PutsSession k y o o' → ((t : Tables) → left_by c a t o ≡ with_session k t o)
        → step c (tables_of o)
        ≡ record { answer = a; after = record { listeners = (tables_of o).listeners; sessions = set (tables_of o).sessions k y } }
        → Follows c o a o'
    wrote y p left e =
        follows a o' _ e refl p.means (p.written ∙ wrote-session o k y (tables_of o).listeners ∙ sym (left _))

    pub wrote_at : (y : Listener) → PutsListener k y o o' → ((t : Tables) → left_by c a t o ≡ with_listener k t o)
        → step c (tables_of o)
        ≡ record { answer = a; after = record { listeners = set (tables_of o).listeners k y; sessions = (tables_of o).sessions } }
        → Follows c o a o'
    wrote_at y p left e =
        follows a o' _ e refl p.means (p.written ∙ wrote-listener o k y (tables_of o).sessions ∙ sym (left _))
