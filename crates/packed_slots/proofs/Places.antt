-- One record of the octets: read at its place, and written there with all others as they were.
-- Assumes nothing.
use mathlib.Core.Path.{◌≡◌, refl, sym, ap, ap₂, ◌∙◌}
use mathlib.Core.Bool.{true, false}
use mathlib.Core.Option.{none, some}
use mathlib.Core.List.{List, [], ◌∷◌, ◌++◌, map, append_assoc}
use Prim.Native.Nat.{ℕ, zero, suc, ◌+◌, ◌-◌, ◌*◌, ◌<◌, ◌≤◌}
use native.Mathlib.Nat.{suc-mul, zero-mul, add_comm}
use native.Mathlib.Omega.{arith}
use lib.ListN.{length, get_or, set, take, drop, length-append, length-drop, take-append-drop, get_or-map, length-map}
use lib.Seq.{take_at, drop_at, take-add, drop-drop, length-take-le, drop-append-add}
use borrow.Author.Tests.{lt-ltb, le-ltb}
use Rattle.octets.specs.Octets.{put}
use Rattle.octets.proofs.Parts.{put-mid}
use Rattle.octets.proofs.Puts.{put-start}
use Rattle.tables.proofs.Lists.{set-map}
use Rattle.tables.specs.Lists.{any, lowest}
use Rattle.tables.proofs.Arrays.{inside, stored-outside}
use Rattle.session.specs.declared.Listener.{Listener}
use Rattle.session.specs.declared.Session.{Session}
use Rattle.session.specs.declared.SessionState.{SessionState}
use Rattle.session.specs.Session.{is_free, has}
use Rattle.std.specs.Prelude.{Ok, Err}
use Rattle.refusal.specs.declared.Refusal.TheVariants.{SessionInUse, NoFreeSession}
use Rattle.packed_slots.specs.Slots.{PutsListener, PutsSession, Places}
use Rattle.packed.specs.Packed.{cut, listener_of, session_of, listeners_of, sessions_of, tables_of, listener_octets, session_octets}
use Rattle.packed.proofs.Coded.{length_cut, cut_at, cut-front}

-- ---- over any record

-- written behind the first w octets
pub put-behind : (w j : ℕ) (e s : List ℕ) → put (w + j) e s ≡ take w s ++ put j e (drop w s)
put-behind w j e s =
    let n : w + j + length e ≡ w + (j + length e) = omega arith in
    let b : drop (w + j + length e) s ≡ drop (j + length e) (drop w s) =
    ap (λ (m : ℕ). drop m s) n ∙ sym (drop-drop (j + length e) w s) in
    ap₂ (λ (x y : List ℕ). x ++ e ++ y) (take-add w j s) b
    ∙ ap (λ (x : List ℕ). x ++ drop (j + length e) (drop w s)) (append_assoc (take w s) (take j (drop w s)) e)
    ∙ append_assoc (take w s) (take j (drop w s) ++ e) (drop (j + length e) (drop w s))

pub cut-put : (n w k : ℕ) (e s : List ℕ) → length e ≡ w → k < n → n * w ≤ length s
    → cut n w (put (k * w) e s) ≡ set (cut n w s) k e
cut-put zero w k e s l h m = absurd (omega arith)
cut-put (suc n) w zero e s l h m =
    let p : put (zero * w) e s ≡ e ++ drop w s =
    ap (λ (i : ℕ). put i e s) (zero-mul w) ∙ put-start e s ∙ ap (λ (i : ℕ). e ++ drop i s) l in
    ap (cut (suc n) w) p
    ∙ ap₂ (λ (x : List ℕ) (y : List ℕ). x ∷ cut n w y) (take_at e (drop w s) w l) (drop_at e (drop w s) w l)
cut-put (suc n) w (suc k) e s l h m =
    let q : suc n * w ≡ n * w + w = suc-mul n w in
    let v : w ≤ length s = omega (arith, q) in
    let u : length (take w s) ≡ w = length-take-le w s v in
    let d = length-drop w s in
    let r : n * w ≤ length (drop w s) = omega (arith, q, d) in
    let p : put (suc k * w) e s ≡ take w s ++ put (k * w) e (drop w s) =
    ap (λ (i : ℕ). put i e s) (suc-mul k w ∙ add_comm (k * w) w) ∙ put-behind w (k * w) e s in
    ap (cut (suc n) w) p
    ∙ ap₂ (λ (x : List ℕ) (y : List ℕ). x ∷ cut n w y) (take_at (take w s) (put (k * w) e (drop w s)) w u)
    (drop_at (take w s) (put (k * w) e (drop w s)) w u)
    ∙ ap (λ (x : List (List ℕ)). take w s ∷ x) (cut-put n w k e (drop w s) l (omega arith) r)

module _ {X : Type 0} (dec : List ℕ → X) (n w : ℕ) where
  -- the record at its place
  pub read_at : (k : ℕ) (s : List ℕ) (d : X) → k < n → dec (take w (drop (k * w) s)) ≡ get_or (map dec (cut n w s)) k d
  read_at k s d h =
      ap dec (sym (cut_at n w s k h))
      ∙ sym (get_or-map dec (cut n w s) k [])
      ∙ inside (map dec (cut n w s)) n k (dec []) d (length-map (cut n w s) dec ∙ length_cut n w s) h

  pub written_at : (k : ℕ) (e s : List ℕ) (x : X) → length e ≡ w → k < n → n * w ≤ length s → dec e ≡ x
      → map dec (cut n w (put (k * w) e s)) ≡ set (map dec (cut n w s)) k x
  written_at k e s x l h m b =
      ap (map dec) (cut-put n w k e s l h m) ∙ sym (set-map dec (cut n w s) k e) ∙ ap (set (map dec (cut n w s)) k) b

  pub length-read : (s : List ℕ) → length (map dec (cut n w s)) ≡ n
  length-read s = length-map (cut n w s) dec ∙ length_cut n w s

-- the octets in front of a record that is written behind them stay
front-stays : (n w m : ℕ) (s t : List ℕ) → n * w ≡ m → m ≤ length s → cut n w (take m s ++ t) ≡ cut n w s
front-stays n w m s t e h =
    let l : length (take m s) ≡ m = length-take-le m s h in
    let k : n * w ≤ length (take m s) = omega (arith, e, l) in
    cut-front n w (take m s) t k ∙ sym (cut-front n w (take m s) (drop m s) k) ∙ ap (cut n w) (take-append-drop m s)

-- .. and those behind one that is written in front
behind-stays : (m j : ℕ) (e s : List ℕ) → j + length e ≤ m → j + length e ≤ length s → drop m (put j e s) ≡ drop m s
behind-stays m j e s h k =
    let i : j ≤ length s = omega arith in
    let n : ℕ = m - (j + length e) in
    let l : length (take j s ++ e) ≡ j + length e =
    length-append (take j s) e ∙ ap (λ (x : ℕ). x + length e) (length-take-le j s i) in
    let q : m ≡ length (take j s ++ e) + n = omega (arith, l) in
    let r : j + length e + n ≡ m = omega arith in
    ap (λ (x : ℕ). drop x (put j e s)) q
    ∙ drop-append-add (take j s ++ e) (drop (j + length e) s) n
    ∙ drop-drop n (j + length e) s
    ∙ ap (λ (x : ℕ). drop x s) r

-- ---- the tables

pub sessions-long : (s : List ℕ) → length (tables_of s).sessions ≡ 16
unfolding sessions_of
sessions-long s = length-read session_of 16 32 (drop 768 s)

pub listeners-long : (s : List ℕ) → length (tables_of s).listeners ≡ 16
unfolding listeners_of
listeners-long s = length-read listener_of 16 48 s

-- the session in the 32 octets at its place
pub session-read : (k : ℕ) (s : List ℕ) (d : Session) → k < 16
    → session_of (take (768 + k * 32 + 32 - (768 + k * 32)) (drop (768 + k * 32) s)) ≡ get_or (tables_of s).sessions k d
unfolding sessions_of
session-read k s d h =
    let w : 768 + k * 32 + 32 - (768 + k * 32) ≡ 32 = omega arith in
    ap₂ (λ (n : ℕ) (t : List ℕ). session_of (take n t)) w (sym (drop-drop (k * 32) 768 s))
    ∙ read_at session_of 16 32 k (drop 768 s) d h

pub listener-read : (k : ℕ) (s : List ℕ) (d : Listener) → k < 16
    → listener_of (take (k * 48 + 48 - k * 48) (drop (k * 48) s)) ≡ get_or (tables_of s).listeners k d
unfolding listeners_of
listener-read k s d h =
    let w : k * 48 + 48 - k * 48 ≡ 48 = omega arith in
    ap (λ (n : ℕ). listener_of (take n (drop (k * 48) s))) w ∙ read_at listener_of 16 48 k s d h

module _ (k : ℕ) (s : List ℕ) (long : length s ≡ 1280) where
  pub session-written : (x : Session) → k < 16 → length (session_octets x) ≡ 32 → session_of (session_octets x) ≡ x
      → tables_of (put (768 + k * 32) (session_octets x) s)
      ≡ record { listeners = (tables_of s).listeners; sessions = set (tables_of s).sessions k x }
  unfolding listeners_of sessions_of
  session-written x h l b =
      let e = session_octets x in
      let u : 768 ≤ length s = omega (arith, long) in
      let d = length-drop 768 s in
      let v : 512 ≤ length (drop 768 s) = omega (arith, long, d) in
      let p : put (768 + k * 32) e s ≡ take 768 s ++ put (k * 32) e (drop 768 s) = put-behind 768 (k * 32) e s in
      ap tables_of p
      ∙ ap₂ (λ (ls : List Listener) (xs : List Session). record { listeners = ls; sessions = xs })
      (ap (map listener_of) (front-stays 16 48 768 s (put (k * 32) e (drop 768 s)) refl u))
      (ap sessions_of (drop_at (take 768 s) (put (k * 32) e (drop 768 s)) 768 (length-take-le 768 s u))
      ∙ written_at session_of 16 32 k e (drop 768 s) x l h v b)

  pub listener-written : (y : Listener) → k < 16 → length (listener_octets y) ≡ 48 → listener_of (listener_octets y) ≡ y
      → tables_of (put (k * 48) (listener_octets y) s)
      ≡ record { listeners = set (tables_of s).listeners k y; sessions = (tables_of s).sessions }
  unfolding listeners_of sessions_of
  listener-written y h l b =
      let e = listener_octets y in
      let u : 768 ≤ length s = omega (arith, long) in
      let i : k * 48 + length e ≤ 768 = omega (arith, l) in
      let j : k * 48 + length e ≤ length s = omega (arith, l, long) in
      ap₂ (λ (ls : List Listener) (xs : List Session). record { listeners = ls; sessions = xs })
      (written_at listener_of 16 48 k e s y l h u b)
      (ap sessions_of (behind-stays 768 (k * 48) e s i j))

-- a part that is lent to be written, by its start and its width
put-part : (a w : ℕ) (s y e : List ℕ) → y ≡ e → length e ≡ w
    → take a s ++ (y ++ drop (a + w - a) (drop a s)) ≡ put a e s
put-part a w s y e q l =
    let m : a + w - a ≡ length e = omega (arith, l) in
    ap (λ (z : List ℕ). take a s ++ (z ++ drop (a + w - a) (drop a s))) q ∙ put-mid a (a + w - a) s e m

module _ (k : ℕ) (s : List ℕ) (long : length s ≡ 1280) where
  pub session-put : (x : Session) (y : List ℕ) → k < 16 → y ≡ session_octets x → length (session_octets x) ≡ 32
      → session_of (session_octets x) ≡ x
      → let a = 768 + k * 32 in PutsSession k x s (take a s ++ (y ++ drop (a + 32 - a) (drop a s)))
  session-put x y h q l b =
      let p = put-part (768 + k * 32) 32 s y (session_octets x) q l in
      record { written = p ∙ rw (lt-ltb k 16 h) refl; means = ap tables_of p ∙ session-written k s long x h l b }

  pub listener-put : (x : Listener) (y : List ℕ) → k < 16 → y ≡ listener_octets x → length (listener_octets x) ≡ 48
      → listener_of (listener_octets x) ≡ x
      → let a = k * 48 in PutsListener k x s (take a s ++ (y ++ drop (a + 48 - a) (drop a s)))
  listener-put x y h q l b =
      let p = put-part (k * 48) 48 s y (listener_octets x) q l in
      record { written = p ∙ rw (lt-ltb k 16 h) refl; means = ap tables_of p ∙ listener-written k s long x h l b }

  -- from 16 on nothing is written
  pub session-none : (x : Session) → 16 ≤ k → PutsSession k x s s
  session-none x h =
      record {
        written = rw (le-ltb k 16 h) refl;
        means =
            ap (λ (xs : List Session). record { listeners = (tables_of s).listeners; sessions = xs })
            (stored-outside (tables_of s).sessions 16 k x (sessions-long s) h);
      }

  pub listener-none : (x : Listener) → 16 ≤ k → PutsListener k x s s
  listener-none x h =
      record {
        written = rw (le-ltb k 16 h) refl;
        means =
            ap (λ (ls : List Listener). record { listeners = ls; sessions = (tables_of s).sessions })
            (stored-outside (tables_of s).listeners 16 k x (listeners-long s) h);
      }

-- ---- opening a session

module _ (id : List ℕ) (state : SessionState) (o : List ℕ) where
  pub places-in-use : any (has id) (tables_of o).sessions ≡ true → Places id state o (Err SessionInUse) o
  places-in-use e = record { place = rw e; means = refl; writes = refl }

  pub places-full : any (has id) (tables_of o).sessions ≡ false
      → lowest (λ x. is_free x.state) (tables_of o).sessions ≡ none → Places id state o (Err NoFreeSession) o
  places-full e l = record { place = rw (e, l); means = refl; writes = refl }

  pub places-slot : (k : ℕ) (o' : List ℕ) → any (has id) (tables_of o).sessions ≡ false
      → lowest (λ x. is_free x.state) (tables_of o).sessions ≡ some k
      → PutsSession k (record { id = id; state = state }) o o' → Places id state o (Ok k) o'
  places-slot k o' e l p = record { place = rw (e, l); means = p.means; writes = p.written }
