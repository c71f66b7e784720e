-- A time check, one session a turn.
-- Assumes nothing.
use mathlib.Core.Path.{◌≡◌, refl, sym, ap, ap₂, ◌∙◌}
use mathlib.Core.List.{List}
use mathlib.Core.Bool.{true}
use Prim.Native.Nat.{ℕ, ◌+◌, ◌<◌, ◌≤◌}
use native.Mathlib.Numerals.{add-one}
use native.Mathlib.Omega.{arith}
use lib.IntN.{ℤ, pos}
use lib.ListN.{length, get_or, set}
use Rattle.session.specs.Session.{free_session, is_up, expired, code_of}
use Rattle.session.specs.declared.Listener.{Listener}
use Rattle.session.specs.declared.Session.{Session}
use Rattle.session_table.specs.Table as table
use Rattle.session_table.specs.Table.{Tables}
use Rattle.packed.specs.Packed.{tables_of}
use Rattle.packed_slots.specs.Slots.{PutsSession}
use Rattle.packed_slots.specs.Calls.{expired_at, expired_in, Checks}
use Rattle.packed_slots.proofs.Places.{sessions-long}
use Rattle.sessions.specs.Expire.{Expires}
use Rattle.sessions.proofs.Filled.{filled, filled_more, filled_next, filled-all}

module _ (time k : ℕ) (o : List ℕ) where
  pub expires-up : (o' : List ℕ) (y : Session) → is_up time (get_or (tables_of o).sessions k free_session).state ≡ true
      → y ≡ free_session → PutsSession k y o o' → Expires time k o o'
  expires-up o' y e f p = record { writes = p.written ∙ rw (e, f) refl; means = p.means ∙ rw (e, f) refl }

-- below i the sessions and codes are those after the check, from i on the sessions are as they were
pub record Turned (time : ℕ) (o₀ : List ℕ) (codes₀ : List ℤ) (o : List ℕ) (codes : List ℤ) (i : ℕ) : Type 0 where
  pub written : o ≡ expired_in time i o₀
  pub listeners : (tables_of o).listeners ≡ (tables_of o₀).listeners
  pub sessions : (tables_of o).sessions ≡ filled (expired time) (tables_of o₀).sessions (tables_of o₀).sessions i
  pub coded : codes ≡ filled (λ x. code_of time x.state) (tables_of o₀).sessions codes₀ i

module _ (time : ℕ) (o₀ : List ℕ) (codes₀ : List ℤ) (long : length codes₀ ≡ 16) where
  xs : List Session
  xs = (tables_of o₀).sessions

  pub turned_none : Turned time o₀ codes₀ o₀ codes₀ 0
  unfolding expired_in
  turned_none = record { written = refl; listeners = refl; sessions = refl; coded = refl }

  pub turned_more : (o o' : List ℕ) (codes : List ℤ) (i : ℕ) (code : ℤ) → i < 16 → Turned time o₀ codes₀ o codes i
      → code ≡ code_of time (get_or (tables_of o).sessions i free_session).state → Expires time i o o'
      → Turned time o₀ codes₀ o' (set codes i code) (i + 1)
  unfolding expired_in xs
  turned_more o o' codes i code h t c e =
      let n = sessions-long o₀ in
      let m : i < length xs = omega (arith, n) in
      let g : get_or (tables_of o).sessions i free_session ≡ get_or xs i free_session =
      ap (λ (x : List Session). get_or x i free_session) t.sessions
      ∙ filled_next (expired time) xs xs i free_session m m in
      record {
        written = e.writes ∙ ap (expired_at time i) t.written ∙ ap (λ (j : ℕ). expired_in time j o₀) (sym (add-one i));
        listeners = ap (λ (x : Tables). x.listeners) e.means ∙ t.listeners;
        sessions =
            ap (λ (x : Tables). x.sessions) e.means
            ∙ ap₂ (λ (x : List Session) (y : Session). set x i (expired time y)) t.sessions g
            ∙ filled_more (expired time) xs xs i free_session free_session m m;
        coded =
            ap₂ (λ (x : List ℤ) (y : ℤ). set x i y) t.coded (c ∙ ap (λ (x : Session). code_of time x.state) g)
            ∙ filled_more (λ (x : Session). code_of time x.state) xs codes₀ i free_session (pos 0) m
            (omega (arith, long));
      }

  pub turned-all : (o : List ℕ) (codes : List ℤ) (i : ℕ) → i ≤ 16 → 16 ≤ i → Turned time o₀ codes₀ o codes i
      → Checks time o₀ codes o
  unfolding xs table.step
  turned-all o codes i u v t =
      let n = sessions-long o₀ in
      let h : length xs ≤ i = omega (arith, n) in
      let j : i ≡ 16 = omega arith in
      let s = t.sessions ∙ filled-all (expired time) xs xs i h h in
      let d = t.coded ∙ filled-all (λ (x : Session). code_of time x.state) xs codes₀ i h (omega (arith, long)) in
      record {
        answers = ap table.codes d;
        means =
            ap₂ (λ (ls : List Listener) (ys : List Session). record { listeners = ls; sessions = ys }) t.listeners s;
        leaves = t.written ∙ ap (λ (k : ℕ). expired_in time k o₀) j;
      }
