-- A sweep that is refused with a refusal is answered with it, and any other as document 01 says.
-- Assumes nothing.
use Rattle.std.proofs.Common.{◌≡◌, ap, ◌∙◌, ℕ, Ok, Err, Result}
use Rattle.refusal.specs.declared.Refusal.{Refusal}
use Rattle.subscription_step.specs.declared.Tally.{Tally}
use Rattle.subscription_table.specs.Table as table
use Rattle.subscription_decisions.specs.Calls.{told, delivered_by, Answers, Delivers}

abbrev pub same : Refusal → Refusal → Type 0
same r e = e ≡ r

answers_is : (r answer : Result ℕ Refusal) → Answers same r answer → answer ≡ r
answers_is (Ok n) answer h = h
answers_is (Err r) answer h = h.2 ∙ ap Err h.1

pub delivers_is : (swept : Result Tally Refusal) (answer : Result ℕ Refusal) → Delivers same swept answer
    → told table.delivered answer ≡ delivered_by swept
delivers_is (Ok t) answer h = ap (told table.delivered) (answers_is h.0 answer h.2) ∙ h.1
delivers_is (Err e) answer h = ap (told table.delivered) h
