-- Adding a listener: what the code has found, and the rule that it follows.
-- Assumes nothing.
use mathlib.Core.Path.{◌≡◌, refl, sym, ap, ◌∙◌}
use mathlib.Core.Bool.{not}
use mathlib.Core.List.{List}
use mathlib.Core.Option.{none, some}
use Prim.Native.Nat.{ℕ}
use lib.ListN.{set}
use Rattle.std.specs.Prelude.{Ok, Err}
use Rattle.refusal.specs.declared.Refusal.{Refusal}
use Rattle.refusal.specs.declared.Refusal.TheVariants.{NoFreeSlot}
use Rattle.refusal.specs.Refusal.{first_of}
use Rattle.address.specs.declared.SenderRange.{SenderRange}
use Rattle.tables.specs.Lists.{lowest, grant}
use Rattle.session.specs.Listener.{new_listener}
use Rattle.session.specs.declared.Listener.{Listener}
use Rattle.session_table.specs.Table as table
use Rattle.session_table.specs.Table.{Tables, refused_plain, listen_checks}
use Rattle.packed.specs.Packed.{tables_of}
use Rattle.packed_slots.specs.Slots.{PutsListener}
use Rattle.packed_slots.specs.Calls.{Follows}
use Rattle.packed_slots.proofs.Left.{refused, wrote_at}

module _ (com_id : ℕ) (senders : SenderRange) (u : List ℕ) where
  abbrev c : table.Call
  c = table.listen com_id senders u

  module _ (t : Tables) where
    listen-early : (r : Refusal) → first_of (listen_checks com_id senders u t.listeners) ≡ Err r
        → table.step c t ≡ record { answer = refused_plain r; after = t }
    unfolding table.step grant
    listen-early r e = rw e refl

    module _ (e : first_of (listen_checks com_id senders u t.listeners) ≡ Ok tt) where
      listen-none : lowest (λ l. not l.used) t.listeners ≡ none
          → table.step c t ≡ record { answer = refused_plain NoFreeSlot; after = t }
      unfolding table.step grant
      listen-none f = rw (e, f) refl

      listen-at : (k : ℕ) → lowest (λ l. not l.used) t.listeners ≡ some k
          → table.step c t
          ≡ record { answer = table.listening k; after = record { listeners = set t.listeners k (new_listener com_id senders u); sessions = t.sessions } }
      unfolding table.step grant
      listen-at k f = rw (e, f) refl

  module _ (o : List ℕ) where
    pub listen-refused : (r : Refusal) → first_of (listen_checks com_id senders u (tables_of o).listeners) ≡ Err r
        → Follows c o (refused_plain r) o
    listen-refused r e = refused c o r (listen-early (tables_of o) r e)

    module _ (e : first_of (listen_checks com_id senders u (tables_of o).listeners) ≡ Ok tt) where
      pub listen-full : lowest (λ l. not l.used) (tables_of o).listeners ≡ none
          → Follows c o (refused_plain NoFreeSlot) o
      listen-full f = refused c o NoFreeSlot (listen-none (tables_of o) e f)

      pub listen-done : (k : ℕ) → lowest (λ l. not l.used) (tables_of o).listeners ≡ some k → (o' : List ℕ)
          → PutsListener k (new_listener com_id senders u) o o' → Follows c o (table.listening k) o'
      listen-done k f o' p =
          wrote_at c o (table.listening k) k o' (new_listener com_id senders u) p (λ t. refl)
          (listen-at (tables_of o) e k f)

-- what was judged of the listener that is added
pub judged : {C : Type 0} (l : Listener) (f : Listener → C) {com_id : ℕ} {senders : SenderRange} {u : List ℕ} {r : C}
    → l ≡ new_listener com_id senders u → f l ≡ r → f (new_listener com_id senders u) ≡ r
judged l f e h = ap f (sym e) ∙ h
