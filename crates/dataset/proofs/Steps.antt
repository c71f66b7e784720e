-- A walk made in steps: where one step ends the next begins, and a refusal ends all.
-- Assumes nothing.
use mathlib.Core.Path.{◌≡◌, refl, sym, ap, ◌∙◌, subst}
use mathlib.Core.List.{List, [], ◌++◌}
use mathlib.Core.Bool.{Bool, true}
use Prim.Native.Nat.{ℕ, ◌+◌, ◌-◌, ◌≤◌}
use native.Mathlib.Omega.{arith}
use lib.ListN.{length, drop, length-drop}
use lib.Seq.{drop-drop}
use Rattle.octets.specs.Octets.{put}
use Rattle.octets.proofs.Halves.{put-append, put-nil}
use Rattle.dataset.specs.Walk.{Walked, stopped, walked, behind, then}
use Rattle.dataset.specs.Steps.{Stepped}
use Rattle.std.specs.Prelude.{Result, Ok, Err}
use Rattle.refusal.specs.declared.Refusal.{Refusal}
use Rattle.dataset.proofs.Walks.{Takes, Even}

-- a walk that takes nothing
pub stays : (s : List ℕ) (p : ℕ) (write : Bool) (t : List ℕ) → p ≤ length s
    → Stepped (walked (drop p s) []) (length s) p write t (Ok p) t
stays s p write t h =
    let e : p ≡ length s - length (drop p s) = simp length-drop (omega arith) in
    record {
      answers = ap Ok e;
      judges = λ _. refl;
      writes = λ _ left done q. let n : [] ≡ done = cc in sym (ap (λ (x : List ℕ). put p x t) (sym n) ∙ put-nil t p);
    }

-- a refusal
pub refuses : (r : Refusal) (size p : ℕ) (write : Bool) (t : List ℕ) → Stepped (stopped r) size p write t (Err r) t
refuses r size p write t = grind arith

-- what follows a refusal is not walked
pub halts : (w : Walked) (k : List ℕ → Walked) {size p : ℕ} {r : Refusal} {write : Bool} {t u : List ℕ}
    → Stepped w size p write t (Err r) u → Stepped (then w k) size p write t (Err r) u
halts w k h = grind arith

-- what is written behind done
module _ (s : List ℕ) (p : ℕ) (left done : List ℕ) (write : Bool) (t u v : List ℕ) (r : Result ℕ Refusal)
    (inside : p ≤ length s) (room : write ≡ true → length s ≤ length t)
    (h : Stepped (walked left done) (length s) p write t (Ok (p + length done)) u) where
  joined : (x : Walked) → Stepped x (length s) (p + length done) write u r v
      → Stepped (behind done x) (length s) p write t r v
  joined (stopped y) m = grind arith
  joined (walked l d) m =
      record {
        answers = m.answers;
        judges = λ e. m.judges e ∙ h.judges e;
        writes =
            λ e l' d' q.
            let n : done ++ d ≡ d' = cc in
            let fits : p ≤ length t = omega (arith, room e) in
            m.writes e l d refl
            ∙ ap (put (p + length done) d) (h.writes e left done refl)
            ∙ put-append done d t p fits
            ∙ ap (λ (x : List ℕ). put p x t) n;
      }

-- one walk behind another
pub onward : (s : List ℕ) (p q : ℕ) (w : Walked) (k : List ℕ → Walked) (write : Bool) (t u v : List ℕ)
    (r : Result ℕ Refusal) → p ≤ length s → (write ≡ true → length s ≤ length t) → Takes (drop p s) w
    → Even (drop p s) w
    → Stepped w (length s) p write t (Ok q) u → Stepped (k (drop q s)) (length s) q write u r v
    → Stepped (then w k) (length s) p write t r v
onward s p q (stopped x) k write t u v r inside room takes even h m = grind arith
onward s p q (walked left done) k write t u v r inside room takes even h m =
    let long : length (drop p s) ≡ length s - p = length-drop p s in
    let at : q ≡ length s - length left = cc h.answers in
    let on : q ≡ p + length done = omega (arith, takes.0) in
    let place : p + (length (drop p s) - length left) ≡ q = omega (arith, takes.0) in
    let rest : left ≡ drop q s = takes.1 ∙ drop-drop (length (drop p s) - length left) p s
    ∙ ap (λ (n : ℕ). drop n s) place in
    subst (λ (l : List ℕ). Stepped (behind done (k l)) (length s) p write t r v) (sym rest)
    (joined s p left done write t u v r inside room
    (subst (λ (n : ℕ). Stepped (walked left done) (length s) p write t (Ok n) u) on h) (k (drop q s))
    (subst (λ (n : ℕ). Stepped (k (drop q s)) (length s) n write u r v) on m))

-- a place behind a walk is no further than the data
pub step-inside : {w : Walked} {size p q : ℕ} {write : Bool} {t u : List ℕ}
    → Stepped w size p write t (Ok q) u → q ≤ size
step-inside {w = stopped r} h = grind arith
step-inside {w = walked left done} {size = size} {q = q} h = grind arith

-- a walk from p on does what the whole walk does
abbrev pub Reaches : Walked → List ℕ → ℕ → Bool → List ℕ → Walked → ℕ → List ℕ → Type 0
Reaches whole s from write before w p now =
    (r : Result ℕ Refusal) (after : List ℕ)
    → Stepped w (length s) p write now r after → Stepped whole (length s) from write before r after

module _ (whole : Walked) (s : List ℕ) (from : ℕ) (write : Bool) (o : List ℕ) (p : ℕ) (t : List ℕ) where
  -- nothing is left to walk
  pub reaches_end : Reaches whole s from write o (walked (drop p s) []) p t → p ≤ length s
      → Stepped whole (length s) from write o (Ok p) t
  reaches_end f h = f (Ok p) t (stays s p write t h)

  -- a refusal
  pub reaches_stopped : (x : Refusal) → Reaches whole s from write o (stopped x) p t
      → Stepped whole (length s) from write o (Err x) t
  reaches_stopped x f = f (Err x) t (refuses x (length s) p write t)

  module _ (w : Walked) (k : List ℕ → Walked) (f : Reaches whole s from write o (then w k) p t) where
    -- what comes next is refused
    pub reaches_refused : (x : Refusal) (u : List ℕ) → Stepped w (length s) p write t (Err x) u
        → Stepped whole (length s) from write o (Err x) u
    reaches_refused x u h = f (Err x) u (halts w k h)

    -- what comes next is walked
    pub reaches_more : (q : ℕ) (u : List ℕ) → p ≤ length s → (write ≡ true → length s ≤ length t)
        → Takes (drop p s) w → Even (drop p s) w → Stepped w (length s) p write t (Ok q) u
        → Reaches whole s from write o (k (drop q s)) q u
    reaches_more q u inside room takes even h r v n =
        f r v (onward s p q w k write t u v r inside room takes even h n)
