-- What each of the user's calls has found, and the rule that it follows.
-- Assumes nothing.
use mathlib.Core.Path.{◌≡◌, refl, sym, ap, subst, ◌∙◌}
use mathlib.Core.Bool.{Bool, true, false}
use mathlib.Core.List.{List}
use Prim.Native.Nat.{ℕ}
use lib.ListN.{get_or, set}
use lib.Seq.{set-get_or}
use Rattle.std.specs.Prelude.{Result}
use Rattle.refusal.specs.declared.Refusal.{Refusal}
use Rattle.refusal.specs.declared.Refusal.TheVariants.{MsgType, NoSlot, NoSession, NoFreeSession}
use Rattle.tables.specs.Trace.{Outcome}
use Rattle.tables.specs.Lists.{at_slot}
use Rattle.session.specs.declared.Listener.{Listener}
use Rattle.session.specs.declared.Session.{Session}
use Rattle.session.specs.declared.SessionState.{SessionState}
use Rattle.session.specs.declared.SessionState.TheVariants.{WaitingForReply}
use Rattle.session.specs.Listener.{free_listener}
use Rattle.session.specs.Session.{free_session, is_free, is_with_user, owes_confirm, answered, is_reply}
use Rattle.session_table.specs.Table as table
use Rattle.session_table.specs.Table.{Tables, Call, refused_plain, at_session, ended, with_sessions}
use Rattle.session_table.specs.Calls.{told}
use Rattle.session_table.proofs.Rules.{opening-told}
use Rattle.packed.specs.Packed.{tables_of}
use Rattle.packed_slots.specs.Slots.{PutsSession, PutsListener, Places}
use Rattle.packed_slots.specs.Calls.{left_by, with_session, Follows}
use Rattle.packed_slots.proofs.Left.{follows, refused, wrote, wrote_at, opens-means, opens-left}

-- ---- opening a session

pub called : (id : List ℕ) (timeout time : ℕ) (o o' : List ℕ) (p : Result ℕ Refusal)
    → Places id (WaitingForReply (record { start = time; timeout = timeout })) o p o'
    → Follows (table.calling id timeout time) o (told table.opened p) o'
unfolding table.step
called id timeout time o o' p w =
    let state : SessionState = WaitingForReply (record { start = time; timeout = timeout }) in
    let full = refused_plain NoFreeSession in
    follows (table.calling id timeout time) o (told table.opened p) o' _ refl
    (opening-told table.opened id state (tables_of o).sessions p w.place)
    (opens-means o table.opened full id state p o' w)
    (opens-left o (table.calling id timeout time) table.opened full (λ k t. refl) (λ t. refl) id state p o' w)

-- ---- a call that names a session's slot

module _ (in' : SessionState → Bool) (done : table.Answer) (f : Session → Session) (xs : List Session) (k : ℕ) where
  abbrev named : Outcome table.Answer (List Session)
  named = at_slot free_session (at_session in' done f) k xs

  named-free : is_free (get_or xs k free_session).state ≡ true
      → named ≡ record { answer = refused_plain NoSlot; after = xs }
  unfolding at_slot
  named-free e = rw (e, set-get_or xs k free_session) refl

  named-done : is_free (get_or xs k free_session).state ≡ false → in' (get_or xs k free_session).state ≡ true
      → named ≡ record { answer = done; after = set xs k (f (get_or xs k free_session)) }
  unfolding at_slot
  named-done e i = rw (e, i) refl

  named_other : is_free (get_or xs k free_session).state ≡ false → in' (get_or xs k free_session).state ≡ false
      → named ≡ record { answer = refused_plain NoSession; after = xs }
  unfolding at_slot
  named_other e i = rw (e, i, set-get_or xs k free_session) refl

module _ (c : Call) (o : List ℕ) (in' : SessionState → Bool) (done : table.Answer) (f : Session → Session) (k : ℕ)
    (s : table.step c (tables_of o) ≡ with_sessions (tables_of o).listeners (named in' done f (tables_of o).sessions k))
    (x : Session) (at : x ≡ get_or (tables_of o).sessions k free_session) where
  pub slot-free : is_free x.state ≡ true → Follows c o (refused_plain NoSlot) o
  slot-free e =
      refused c o NoSlot
      (s
      ∙ ap (with_sessions (tables_of o).listeners)
      (named-free in' done f (tables_of o).sessions k (subst (λ z. is_free z.state ≡ true) at e)))

  pub slot-done : is_free x.state ≡ false → in' x.state ≡ true → (y : Session) → y ≡ f x → (o' : List ℕ)
      → PutsSession k y o o'
      → ((t : Tables) → left_by c done t o ≡ with_session k t o) → Follows c o done o'
  slot-done e i y w o' p left =
      wrote c o done k o' y p left
      (s
      ∙ ap (with_sessions (tables_of o).listeners)
      (named-done in' done f (tables_of o).sessions k (subst (λ z. is_free z.state ≡ false) at e)
      (subst (λ z. in' z.state ≡ true) at i))
      ∙ ap
      (λ (z : Session).
      record {
        answer = done;
        after = record { listeners = (tables_of o).listeners; sessions = set (tables_of o).sessions k z };
      })
      (sym (w ∙ ap f at)))

  pub slot-other : is_free x.state ≡ false → in' x.state ≡ false → Follows c o (refused_plain NoSession) o
  slot-other e i =
      refused c o NoSession
      (s
      ∙ ap (with_sessions (tables_of o).listeners)
      (named_other in' done f (tables_of o).sessions k (subst (λ z. is_free z.state ≡ false) at e)
      (subst (λ z. in' z.state ≡ false) at i)))

pub confirm-step : (k : ℕ) (t : Tables)
    → table.step (table.confirm k) t ≡ with_sessions t.listeners (named owes_confirm table.confirmed ended t.sessions k)
unfolding table.step
confirm-step k t = refl

module _ (k type timeout time : ℕ) where
  pub reply-step : (t : Tables) → is_reply type ≡ true
      → table.step (table.reply k type timeout time) t
      ≡ with_sessions t.listeners (named is_with_user table.replied (answered type timeout time) t.sessions k)
  unfolding table.step
  reply-step t e = rw e refl

  no-reply : (t : Tables) → is_reply type ≡ false
      → table.step (table.reply k type timeout time) t ≡ record { answer = refused_plain MsgType; after = t }
  unfolding table.step
  no-reply t e = rw e refl

  pub reply-none : (o : List ℕ) → is_reply type ≡ false
      → Follows (table.reply k type timeout time) o (refused_plain MsgType) o
  reply-none o e = refused (table.reply k type timeout time) o MsgType (no-reply (tables_of o) e)

-- ---- freeing a listener

module _ (k : ℕ) (t : Tables) where
  frees : (get_or t.listeners k free_listener).used ≡ true → (y : Listener) → y ≡ free_listener
      → table.step (table.unlisten k) t
      ≡ record { answer = table.freed; after = record { listeners = set t.listeners k y; sessions = t.sessions } }
  unfolding table.step at_slot
  frees e y w = rw (e, w) refl

  none-there : (get_or t.listeners k free_listener).used ≡ false
      → table.step (table.unlisten k) t ≡ record { answer = refused_plain NoSlot; after = t }
  unfolding table.step at_slot
  none-there e = rw (e, set-get_or t.listeners k free_listener) refl

module _ (k : ℕ) (o : List ℕ) (l : Listener) (at : l ≡ get_or (tables_of o).listeners k free_listener) where
  pub unlisten-done : l.used ≡ true → (y : Listener) → y ≡ free_listener → (o' : List ℕ) → PutsListener k y o o'
      → Follows (table.unlisten k) o table.freed o'
  unlisten-done e y w o' p =
      wrote_at (table.unlisten k) o table.freed k o' y p (λ t. refl)
      (frees k (tables_of o) (subst (λ z. z.used ≡ true) at e) y w)

  pub unlisten-none : l.used ≡ false → Follows (table.unlisten k) o (refused_plain NoSlot) o
  unlisten-none e = refused (table.unlisten k) o NoSlot (none-there k (tables_of o) (subst (λ z. z.used ≡ false) at e))
