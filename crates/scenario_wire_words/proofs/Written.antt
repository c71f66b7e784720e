-- What is put of a writer's answer is its words: a refusal by its number.
-- Assumes nothing.
use Rattle.std.proofs.Common.{◌≡◌, ℕ, List, Ok, Err, Result, subst}
use Rattle.std.specs.Prelude.{MatchResult}
use Rattle.refusal.specs.Refusal.{number}
use Rattle.refusal.specs.declared.Refusal.{Refusal}
use Rattle.line.specs.Line.{target_words}
use Rattle.answer.specs.Answer.{refused}
use Rattle.answer.specs.declared.Room.{Room}
use Rattle.answer.specs.Lent.{Fills}
use Rattle.scenario_wire_words.specs.Words.{written_words}

pub written_fills : (done target : List ℕ) (w : Result ℕ Refusal) {before after : Room}
    → MatchResult w (λ n. Fills (target_words done n target) before after)
    (λ r. (n : ℕ) × (n ≡ number r) × Fills (refused n) before after)
    → Fills (written_words done w target) before after
written_fills done target (Ok n) e = e
written_fills done target (Err r) {before} {after} e =
    subst (λ (n : ℕ). Fills (refused n) before after) e.1 e.2
