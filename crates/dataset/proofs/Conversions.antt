-- A conversion that is granted: the writing walk goes where the judging walk went, and leaves the octets converted.
-- Assumes nothing.
use mathlib.Core.Path.{◌≡◌, refl, sym, ap, ◌∙◌}
use mathlib.Core.List.{List}
use mathlib.Core.Bool.{true, false}
use Prim.Native.Nat.{ℕ, ◌-◌, ◌≤◌}
use native.Mathlib.Omega.{arith}
use borrow.Author.Tests.{eq-eqb, le-ltb}
use lib.ListN.{length}
use Rattle.std.specs.Prelude.{Result, Ok}
use Rattle.refusal.specs.declared.Refusal.{Refusal}
use Rattle.refusal.specs.Refusal.{answer, after}
use Rattle.octets.specs.Octets.{put}
use Rattle.dataset.specs.Walk.{Walked, stopped, walked, refusal_of, Converts}
use Rattle.dataset.specs.Steps.{Stepped}
use Rattle.dataset.proofs.Walks.{Even}

-- the octets converted are written
pub written : (s t u v : List ℕ) (p : ℕ) (w : Walked) {r : Result ℕ Refusal} → Even s w
    → Stepped w (length s) 0 false t (Ok p) u → p ≡ length s → p ≤ length t
    → Stepped w (length s) 0 true u r v → Converts w (length s) t r v
written s t u v p (stopped x) even h e k g = grind arith
written s t u v p (walked left done) even h e k g =
    let f : p ≡ length s - length left = cc h.answers in
    let n : length left ≡ 0 = omega (arith, even) in
    let a : Ok tt ≡ refusal_of (walked left done) (length s) (length t) =
    rw (eq-eqb (length left) 0 n, le-ltb (length t) (length s) (omega arith)) in
    record {
      answers = g.answers ∙ ap Ok (sym f ∙ e) ∙ ap (λ x. answer x (length s)) a;
      leaves = g.writes refl left done refl ∙ ap (put 0 done) (h.judges refl) ∙ ap (λ x. after x (put 0 done t) t) a;
    }
