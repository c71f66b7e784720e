-- Numbers written one after the other; what a line leaves of the run; a conversion's answer in words.
-- Assumes nothing.
use mathlib.Core.Path.{◌≡◌, refl, sym, ap, ap₂, ◌∙◌}
use mathlib.Core.Bool.{true, false}
use mathlib.Core.List.{List, [], ◌∷◌, ◌++◌, append_assoc}
use mathlib.Core.Option.{Option, none, some}
use Prim.Native.Nat.{ℕ, zero, suc, ◌+◌, ◌*◌, ◌/◌, ◌<◌}
use native.Mathlib.Numerals.{add-one}
use native.Mathlib.Omega.{arith}
use lib.ListN.{length, get_or, set, take, drop}
use lib.Seq.{drop-cons, drop-drop}
use Rattle.std.specs.Prelude.{Option as Maybe, None, Result, Ok, Err}
use Rattle.refusal.specs.declared.Refusal.{Refusal}
use Rattle.refusal.specs.Refusal.{answer, after}
use Rattle.octets.specs.Octets.{big, part, put}
use Rattle.dataset.specs.declared.Form.{Form}
use Rattle.dataset.specs.Walk.{Walked, whole_of, refusal_of, done_of, Converts}
use Rattle.answer.specs.Answer.{word}
use Rattle.answer.specs.declared.Room.{Room}
use Rattle.answer.specs.Said.{Answered}
use Rattle.scenario_wire_words.specs.Words.{written_words}
use Rattle.answer.proofs.Said.{not_answered}
use Rattle.scenario_data.specs.Data.{Said, numbers_of, is_run, run_said, done_words, convert_words, keeping, Describes}

-- one number more
numbers_more : (i : ℕ) (s : List ℕ) → numbers_of (suc i) s ≡ numbers_of i s ++ (big (part 4 (4 * i) s) ∷ [])
numbers_more zero s = refl
numbers_more (suc i) s =
    let e : 4 + 4 * i ≡ 4 * suc i = omega arith in
    ap (λ (l : List ℕ). big (take 4 s) ∷ l) (numbers_more i (drop 4 s))
    ∙ ap (λ (t : List ℕ). big (take 4 s) ∷ (numbers_of i (drop 4 s) ++ (big (take 4 t) ∷ [])))
    (drop-drop (4 * i) 4 s ∙ ap (λ (k : ℕ). drop k s) e)

numbers_length : (i : ℕ) (s : List ℕ) → length (numbers_of i s) ≡ i
numbers_length zero s = refl
numbers_length (suc i) s = ap suc (numbers_length i (drop 4 s))

seam : (xs : List ℕ) (y v : ℕ) (ys : List ℕ) → set (xs ++ (y ∷ ys)) (length xs) v ≡ xs ++ (v ∷ ys)
seam [] y v ys = refl
seam (x ∷ xs) y v ys = ap (λ (l : List ℕ). x ∷ l) (seam xs y v ys)

-- a run of which the first i numbers are written
pub filled_more : (run s : List ℕ) (i : ℕ) → i < length run →
    set (numbers_of i s ++ drop i run) i (big (part 4 (4 * i) s)) ≡ numbers_of (i + 1) s ++ drop (i + 1) run
filled_more run s i h =
    let v : ℕ = big (part 4 (4 * i) s) in
    ap₂ (λ (l : List ℕ) (k : ℕ). set (numbers_of i s ++ l) k v) (drop-cons run i 0 h) (sym (numbers_length i s))
    ∙ seam (numbers_of i s) (get_or run i 0) v (drop (suc i) run)
    ∙ sym (append_assoc (numbers_of i s) (v ∷ []) (drop (suc i) run))
    ∙ ap (λ (l : List ℕ). l ++ drop (suc i) run) (sym (numbers_more i s))
    ∙ ap (λ (k : ℕ). numbers_of k s ++ drop k run) (sym (add-one i))

-- a line that says nothing
pub describes_none : {x : Option Said} {numbers : ℕ} {run : List ℕ} {a : Room} {r : Maybe (Unit {0})} → r ≡ None →
    x ≡ none → Describes x numbers run a r numbers run a
describes_none {a = a} i e = rw (i, e) (record { words = not_answered refl a; counted = refl; lent = refl })

-- a conversion leaves the run
pub describes_kept : (x : Option (List (List ℕ))) {numbers : ℕ} {run : List ℕ} {a b : Room} {r : Maybe (Unit {0})}
    → Answered x a r b → Describes (keeping numbers run x) numbers run a r numbers run b
describes_kept none p = record { words = p; counted = refl; lent = refl }
describes_kept (some ws) p = record { words = p; counted = refl; lent = refl }

module _ (run d : List ℕ) (n : ℕ) where
  -- octets that are a run
  pub run_is_said : n ≡ length d → is_run n (length run) ≡ true
      → run_said run d
      ≡ some (record { words = word "ok"; numbers = n / 4; run = put 0 (numbers_of (n / 4) d) run })
  unfolding run_said
  run_is_said e h = rw (sym e, h) refl

  -- octets that are none
  pub run_is_bad : n ≡ length d → is_run n (length run) ≡ false → run_said run d ≡ none
  unfolding run_said
  run_is_bad e h = rw (sym e, h) refl

-- a conversion's answer
pub written_as : (form : Form) (done run : List ℕ) (id : ℕ) (before d : List ℕ) (c : Result ℕ Refusal)
    (target : List ℕ) → Converts (whole_of form run id d) (length d) before c target
    → written_words done c target ≡ convert_words form done run id before d
unfolding convert_words
written_as form done run id before d c target x = go (refusal_of w (length d) (length before)) x.answers x.leaves
  where
    w : Walked
    w = whole_of form run id d

    go : (v : Result (Unit {0}) Refusal) → c ≡ answer v (length d) → target ≡ after v (put 0 (done_of w) before) before
        → written_words done c target ≡ done_words done v (length d) (put 0 (done_of w) before)
    go (Ok u) e k = rw (e, k) refl
    go (Err r) e k = rw e refl
