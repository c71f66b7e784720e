-- What the first octet of a record, or a listener's ComId, tells of the record that the slot holds.
-- Assumes nothing.
use mathlib.Core.Path.{◌≡◌, refl, sym, ap, ◌∙◌}
use mathlib.Core.Bool.{Bool, true, false, not, ◌&&◌}
use mathlib.Core.List.{List, [], ◌∷◌}
use Prim.Native.Nat.{ℕ, zero, suc, ◌+◌, ◌*◌, ◌<◌, ◌≤◌}
use native.Mathlib.Nat.{add-zero}
use native.Mathlib.Omega.{arith}
use lib.Dec.{eqb, leb}
use lib.ListN.{get_or, take, drop}
use lib.Seq.{get_or-take, get_or-drop, take-take, drop-drop}
use Rattle.std.proofs.lemmas.Bool.Decides.{nat_tests}
use Rattle.octets.specs.Octets.{little, part}
use Rattle.timing.specs.declared.Timing.{Timing}
use Rattle.session.specs.declared.Listener.{Listener}
use Rattle.session.specs.declared.Session.{Session}
use Rattle.session.specs.Listener.{free_listener}
use Rattle.session.specs.declared.SessionState.{SessionState}
use Rattle.session.specs.Session.{free_session, is_free, has, can_take}
use Rattle.packed.specs.Packed.{listener_of, session_of, state_of, listeners_of, sessions_of, tables_of}
use Rattle.packed_slots.proofs.Places.{read_at}

-- n octets at k among the first w are those of the whole
part-within : (n k w : ℕ) (s : List ℕ) → k + n ≤ w → part n k (take w s) ≡ part n k s
part-within n zero w s h = take-take n w s (omega arith)
part-within n (suc k) zero s h = absurd (omega arith)
part-within n (suc k) (suc w) [] h = refl
part-within n (suc k) (suc w) (x ∷ s) h = part-within n k w s (omega arith)

-- the first of the w octets at a
first-at : (a w : ℕ) (s : List ℕ) → 0 < w → get_or (take w (drop a s)) 0 0 ≡ get_or s a 0
first-at a w s h =
    get_or-take w (drop a s) 0 0 h ∙ get_or-drop a s 0 0 ∙ ap (λ (i : ℕ). get_or s i 0) (add-zero a)

-- n octets at k among the w at a
part_at : (n k a w : ℕ) (s : List ℕ) → k + n ≤ w → part n k (take w (drop a s)) ≡ part n (a + k) s
part_at n k a w s h = part-within n k w (drop a s) h ∙ ap (take n) (drop-drop k a s)

module _ (k : ℕ) (s : List ℕ) (h : k < 16) where
  -- a listener in use
  pub used_at : not (eqb (get_or s (k * 48) 0) 0) ≡ (get_or (tables_of s).listeners k free_listener).used
  unfolding listeners_of
  used_at =
      ap (λ (n : ℕ). not (eqb n 0)) (sym (first-at (k * 48) 48 s (omega arith)))
      ∙ ap (λ (l : Listener). l.used) (read_at listener_of 16 48 k s free_listener h)

  -- one that is free, and one that is not
  pub vacant_at : get_or s (k * 48) 0 ≡ 0 → not (get_or (tables_of s).listeners k free_listener).used ≡ true
  vacant_at e = rw (← used_at) (grind (arith, nat_tests))

  pub held_at : (get_or s (k * 48) 0 ≡ 0 → ⊥) → not (get_or (tables_of s).listeners k free_listener).used ≡ false
  held_at e = rw (← used_at) (grind (arith, nat_tests))

  -- .. with a ComId
  pub com_id_at : little (part 4 (k * 48 + 4) s) ≡ (get_or (tables_of s).listeners k free_listener).com_id
  unfolding listeners_of
  com_id_at =
      ap little (sym (part_at 4 4 (k * 48) 48 s (omega arith)))
      ∙ ap (λ (l : Listener). l.com_id) (read_at listener_of 16 48 k s free_listener h)

  -- a session in use: its state has a number of 1 to 4
  in-use_at : (n : ℕ) (t : Timing) → (leb 1 n && leb n 4) ≡ not (is_free (state_of n t))
  in-use_at n t = grind (arith, nat_tests)

  state_at : (leb 1 (get_or s (768 + k * 32) 0) && leb (get_or s (768 + k * 32) 0) 4)
      ≡ not (is_free (get_or (tables_of s).sessions k free_session).state)
  unfolding sessions_of
  state_at =
      let t = take 32 (drop (k * 32) (drop 768 s)) in
      let f : get_or t 0 0 ≡ get_or s (768 + k * 32) 0 =
      ap (λ (l : List ℕ). get_or (take 32 l) 0 0) (drop-drop (k * 32) 768 s)
      ∙ first-at (768 + k * 32) 32 s (omega arith) in
      ap (λ (n : ℕ). leb 1 n && leb n 4) (sym f)
      ∙ in-use_at (get_or t 0 0) _
      ∙ ap (λ (x : Session). not (is_free x.state)) (read_at session_of 16 32 k (drop 768 s) free_session h)

  -- .. and any other number is a free one's
  pub within_at : 1 ≤ get_or s (768 + k * 32) 0 → get_or s (768 + k * 32) 0 ≤ 4
      → true ≡ not (is_free (get_or (tables_of s).sessions k free_session).state)
  within_at l g = grind (arith, nat_tests) ∙ state_at

  pub below_at : get_or s (768 + k * 32) 0 < 1
      → false ≡ not (is_free (get_or (tables_of s).sessions k free_session).state)
  below_at l = grind (arith, nat_tests) ∙ state_at

  pub above_at : 4 < get_or s (768 + k * 32) 0
      → false ≡ not (is_free (get_or (tables_of s).sessions k free_session).state)
  above_at l = grind (arith, nat_tests) ∙ state_at

-- ---- a session that is free has no identifier, and can take nothing

module _ (id : List ℕ) (x : Session) (e : not (is_free x.state) ≡ false) where
  pub has-free : has id x ≡ false
  unfolding has
  has-free = rw e

  pub takes-free : (in' : SessionState → Bool) → can_take in' id x ≡ false
  takes-free in' = rw has-free

pub free-true : (b : Bool) → not (not b) ≡ true → b ≡ true
free-true true e = refl
free-true false e = e

pub free-false : (b : Bool) → not (not b) ≡ false → b ≡ false
free-false true e = e
free-false false e = refl
