-- Pieces put into a room: one call after another, the place's bound, the room's length, and all of them at once where they fit.
-- Assumes nothing.
use Rattle.std.proofs.Common.{◌≡◌, ℕ, ◌+◌, ◌*◌, ◌<◌, ◌≤◌, Bool, true, false, cond, leb, List, [], ◌∷◌, ◌++◌, length, sym, refl, ap, ◌∙◌, ap₂, add-zero, arith, length-append, length-drop, length-take, le-leb, leb-true}
use mathlib.Core.List.{flatten}
use borrow.Author.Tests.{lt-leb}
use Rattle.octets.specs.Octets.{put}
use Rattle.hexadecimal.specs.Hex.{hex_of}
use Rattle.octets.proofs.Halves.{put-append, put-nil}
use mathlib.Core.Option.{Option, none, some}
use Rattle.answer.specs.declared.Room.{Room as Lent}
use Rattle.answer.specs.Lent.{Fills}
use Rattle.answer.specs.Answer.{Room, room, put_piece, put_all, Puts, answered_by, Answers, ascii, spaced}

-- what is written within a list leaves its length
pub put-length : (k : ℕ) (t s : List ℕ) → k + length t ≤ length s → length (put k t s) ≡ length s
put-length k t s h = simp (length-append, length-take, length-drop) (omega arith)

-- a piece that fits
pub piece-fits : (s : List ℕ) (at : ℕ) (o : List ℕ) → at + length s ≤ length o → put_piece s (room at o) ≡ room (at + length s) (put at s o)
unfolding put_piece
piece-fits s at o h = rw (le-leb (at + length s) (length o) h)

-- one that does not
pub piece-over : (s : List ℕ) (at : ℕ) (o : List ℕ) → length o < at + length s → put_piece s (room at o) ≡ room (length o) o
unfolding put_piece
piece-over s at o h = rw (lt-leb (at + length s) (length o) h)

-- either way the room stays as long as it was, and the place is within it
pub piece-kept : (s : List ℕ) (r : Room) → ((put_piece s r).at ≤ length r.octets) × (length (put_piece s r).octets ≡ length r.octets)
unfolding put_piece
piece-kept s r = go (leb (r.at + length s) (length r.octets)) refl
  where
    go : (b : Bool) → leb (r.at + length s) (length r.octets) ≡ b → ((cond b (room (r.at + length s) (put r.at s r.octets)) (room (length r.octets) r.octets)).at ≤ length r.octets) × (length (cond b (room (r.at + length s) (put r.at s r.octets)) (room (length r.octets) r.octets)).octets ≡ length r.octets)
    go true e = (leb-true (r.at + length s) (length r.octets) e, put-length r.at s r.octets (leb-true (r.at + length s) (length r.octets) e))
    go false e = (omega arith, refl)

-- pieces, and then more
pub put_all-append : (ss ts : List (List ℕ)) (r : Room) → put_all (ss ++ ts) r ≡ put_all ts (put_all ss r)
put_all-append [] ts r = refl
put_all-append (s ∷ ss) ts r = put_all-append ss ts (put_piece s r)

-- a room stays as long as it was
pub put_all-length : (ss : List (List ℕ)) (r : Room) → length (put_all ss r).octets ≡ length r.octets
put_all-length [] r = refl
put_all-length (s ∷ ss) r = put_all-length ss (put_piece s r) ∙ (piece-kept s r).1

stays : (ss : List (List ℕ)) (r : Room) → r.at ≤ length r.octets → (put_all ss r).at ≤ length r.octets
stays [] r h = h
stays (s ∷ ss) r h =
    let k = piece-kept s r in
    omega (arith, k, stays ss (put_piece s r) (omega arith))

-- behind a piece the place is within the room
pub put_all-within : (s : List ℕ) (ss : List (List ℕ)) (at : ℕ) (o : List ℕ) → (put_all (s ∷ ss) (room at o)).at ≤ length o
put_all-within s ss at o =
    let k = piece-kept s (room at o) in
    omega (arith, k, stays ss (put_piece s (room at o)) (omega arith))

-- pieces that all fit stand one behind the other at the place
pub put_all-fits : (ss : List (List ℕ)) (at : ℕ) (o : List ℕ) → at + length (flatten ss) ≤ length o → put_all ss (room at o) ≡ room (at + length (flatten ss)) (put at (flatten ss) o)
unfolding flatten
put_all-fits [] at o h = ap₂ room (sym (add-zero at)) (sym (put-nil o at))
put_all-fits (s ∷ ss) at o h =
    let l : length (s ++ flatten ss) ≡ length s + length (flatten ss) = length-append s (flatten ss) in
    let n : at + length s + length (flatten ss) ≡ at + length (s ++ flatten ss) = omega arith in
    ap (put_all ss) (piece-fits s at o (omega arith))
    ∙ put_all-fits ss (at + length s) (put at s o) (omega (arith, put-length at s o (omega arith)))
    ∙ ap₂ room n (put-append s (flatten ss) o at (omega arith))

-- one piece
pub fits : (s : List ℕ) (at r : ℕ) {o o' : List ℕ} → r ≡ at + length s → r ≤ length o → o' ≡ put at s o → Puts (s ∷ []) at o r o'
fits s at r {o} n h e = record { puts = ap₂ room n e ∙ sym (piece-fits s at o (omega arith)) }

pub over : (s : List ℕ) (at : ℕ) (o : List ℕ) → length o < at + length s → Puts (s ∷ []) at o (length o) o
over s at o h = record { puts = sym (piece-over s at o h) }

pub nothing : (at : ℕ) (o : List ℕ) → Puts [] at o at o
nothing at o = record { puts = refl }

-- one call after another
infixl 20 ◌⨟◌
pub ◌⨟◌ : {ss ts : List (List ℕ)} {at p r : ℕ} {o o' o'' : List ℕ} → Puts ss at o p o' → Puts ts p o' r o'' → Puts (ss ++ ts) at o r o''
◌⨟◌ {ss} {ts} {at} {p} {r} {o} x y = record { puts = y.puts ∙ ap (put_all ts) x.puts ∙ sym (put_all-append ss ts (room at o)) }

-- a space, and what stands behind it
pub behind-space : {s : List ℕ} {at p r : ℕ} {o o' o'' : List ℕ} → Puts (ascii " " ∷ []) at o p o' → Puts (s ∷ []) p o' r o'' → Puts (spaced s) at o r o''
unfolding spaced
behind-space x y = x ⨟ y

module _ {ss : List (List ℕ)} {at r : ℕ} {o o' : List ℕ} where
  -- the same pieces in other words
  pub pieces : (ts : List (List ℕ)) → ss ≡ ts → Puts ss at o r o' → Puts ts at o r o'
  pieces ts e x = record { puts = x.puts ∙ ap (λ (us : List (List ℕ)). put_all us (room at o)) e }

  pub long : Puts ss at o r o' → length o' ≡ length o
  long x = ap (λ (m : Room). length m.octets) x.puts ∙ put_all-length ss (room at o)

  -- a place within the room stays there
  pub bounded : at ≤ length o → Puts ss at o r o' → r ≤ length o
  bounded h x =
      let e : r ≡ (put_all ss (room at o)).at = ap (λ (m : Room). m.at) x.puts in
      omega (arith, stays ss (room at o) h)

  -- all of them, where they fit
  pub place : at + length (flatten ss) ≤ length o → Puts ss at o r o' → r ≡ at + length (flatten ss)
  place h x = ap (λ (m : Room). m.at) (x.puts ∙ put_all-fits ss at o h)

  pub written : at + length (flatten ss) ≤ length o → Puts ss at o r o' → o' ≡ put at (flatten ss) o
  written h x = ap (λ (m : Room). m.octets) (x.puts ∙ put_all-fits ss at o h)

-- a call that puts a piece answers a place within the room
pub within : {s : List ℕ} {ss : List (List ℕ)} {at r : ℕ} {o o' : List ℕ} → Puts (s ∷ ss) at o r o' → r ≤ length o
within {s} {ss} {at} {r} {o} x =
    let e : r ≡ (put_all (s ∷ ss) (room at o)).at = ap (λ (m : Room). m.at) x.puts in
    omega (arith, put_all-within s ss at o)

-- a line's answer: its pieces, or nothing
pub answered : {ss : List (List ℕ)} {at r : ℕ} {o o' : List ℕ} → Puts ss at o r o' → Answers (some ss) at o r o'
answered x = record { answers = x.puts }

pub unanswered : (at : ℕ) (o : List ℕ) → Answers none at o 0 o
unanswered at o = record { answers = refl }

-- a line's answer in other words; nothing; pieces
module _ {x : Option (List (List ℕ))} where
  pub answered-as : {y : Option (List (List ℕ))} {at r : ℕ} {o o' : List ℕ} → x ≡ y → Answers y at o r o' → Answers x at o r o'
  answered-as {y} {at} {r} {o} e a =
      record { answers = a.answers ∙ ap (λ (z : Option (List (List ℕ))). answered_by z (room at o)) (sym e) }

  pub not-answered : x ≡ none → (at : ℕ) (o : List ℕ) → Answers x at o 0 o
  not-answered e at o = answered-as e (record { answers = refl })

  pub answered-by : {ss : List (List ℕ)} {at r : ℕ} {o o' : List ℕ} → x ≡ some ss → Puts ss at o r o' → Answers x at o r o'
  answered-by e p = answered-as e (record { answers = p.puts })

-- octets take two digits each
pub hex-length : (s : List ℕ) → length (hex_of s) ≡ 2 * length s
hex-length [] = refl
hex-length (x ∷ s) = let h : length (hex_of s) ≡ 2 * length s = hex-length s in omega arith

-- the same of a lent room
infixl 20 ◌▹◌
pub ◌▹◌ : {ss ts : List (List ℕ)} {a b c : Lent} → Fills ss a b → Fills ts b c → Fills (ss ++ ts) a c
◌▹◌ x y = record { filled = x.filled ⨟ y.filled; memory = y.memory ∙ x.memory }

pub behind : {s : List ℕ} {a b c : Lent} → Fills (ascii " " ∷ []) a b → Fills (s ∷ []) b c → Fills (spaced s) a c
unfolding spaced
behind x y = x ▹ y

module _ {ss : List (List ℕ)} {a b : Lent} where
  pub filled_as : (ts : List (List ℕ)) → ss ≡ ts → Fills ss a b → Fills ts a b
  filled_as ts e x = record { filled = pieces ts e x.filled; memory = x.memory }

  pub same_length : Fills ss a b → length b.octets.now ≡ length a.octets.now
  same_length x = long x.filled

-- behind a piece the place is within the room
pub inside : {s : List ℕ} {ss : List (List ℕ)} {a b : Lent} → Fills (s ∷ ss) a b → b.at ≤ length b.octets.now
inside x = omega (arith, within x.filled, long x.filled)

-- one piece that fits, and one that does not
module _ (s : List ℕ) {a b : Lent} where
  pub fill_fits : b.at ≡ a.at + length s → b.at ≤ length a.octets.now → b.octets.now ≡ put a.at s a.octets.now → b.octets.ghost_name ≡ a.octets.ghost_name → Fills (s ∷ []) a b
  fill_fits n h e m = record { filled = fits s a.at b.at n h e; memory = m }

  pub fill_over : length a.octets.now < a.at + length s → b.at ≡ length a.octets.now → b.octets.now ≡ a.octets.now → b.octets.ghost_name ≡ a.octets.ghost_name → Fills (s ∷ []) a b
  fill_over h n e m = record { filled = record { puts = ap₂ room n e ∙ sym (piece-over s a.at a.octets.now h) }; memory = m }
