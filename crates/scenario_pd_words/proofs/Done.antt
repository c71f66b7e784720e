-- What a call granted or did, in words, is what the table answers, in words.
-- Assumes nothing.
use Rattle.std.proofs.Common.{◌≡◌, ℕ, List, refl, sym}
use Rattle.std.specs.Prelude.{Ok, Err, Result}
use Rattle.refusal.specs.declared.Refusal.{Refusal}
use Rattle.answer.specs.Answer.{spaced, word_of, granted_words, done_words}
use Rattle.subscription_table.specs.Table.{Answer}
use Rattle.subscription_decisions.specs.Calls.{told}
use Rattle.scenario_pd_words.specs.Words.{answer_words}

pub said_granted : (says : ℕ → Answer) (word : List ℕ) → ((n : ℕ) → answer_words (says n) ≡ word_of word n)
    → (r : Result ℕ Refusal) → granted_words word r ≡ answer_words (told says r)
said_granted says word said (Ok n) = sym (said n)
said_granted says word said (Err r) = refl

pub said_done : (a : Answer) (word : List ℕ) → answer_words a ≡ spaced word
    → (r : Result (Unit {0}) Refusal) → done_words word r ≡ answer_words (told (λ _. a) r)
said_done a word said (Ok u) = sym said
said_done a word said (Err r) = refl
