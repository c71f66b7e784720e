-- What the calls over a table answer: sizes, a datagram that arrives, and document 01's answer for each of the code's.
use Rattle.std.specs.Prelude.{ℕ, ◌≡◌, not, ltb, List, [], ◌∷◌, Ok, Err, Result}
use Rattle.refusal.specs.Refusal.{Check, ◌when◌}
use Rattle.refusal.specs.declared.Refusal.{Refusal}
use Rattle.refusal.specs.declared.Refusal.TheVariants as refusal
use Rattle.subscription_table.specs.Slot as slot
use Rattle.subscription_table.specs.Table as table
use Rattle.subscription_table.specs.Table.{fits}
use Rattle.subscription_step.specs.declared.Tally.{Tally}
use Rattle.subscription_decisions.specs.declared.Passed.{Passed}

-- document 01's answer, where a call that grants says what
abbrev pub told : {G : Type 0} → (G → table.Answer) → Result G Refusal → table.Answer
told says (Ok g) = says g
told says (Err r) = table.refused r

-- 1
abbrev pub size_checks : ℕ → ℕ → List Check
size_checks slots octets = refusal.Sizes when not (fits slots octets) ∷ []

-- the sweep's answer to a telegram: how many slots took it, 9 where some match, 8 where none does
abbrev pub delivered_by : Result Tally Refusal → table.Answer
delivered_by (Ok t) = table.delivered_to (ltb 0 t.matched) t.changed
delivered_by (Err r) = table.refused r

-- an answer whose refusal is made of another's
abbrev pub Answers : {E : Type 0} → (Refusal → E → Type 0) → Result ℕ Refusal → Result ℕ E → Type 0
Answers gives (Ok n) answer = answer ≡ Ok n
Answers {E} gives (Err r) answer = (e : E) × gives r e × (answer ≡ Err e)

-- .. where the sweep is refused with anything that is made of a refusal
abbrev pub Delivers : {E : Type 0} → (Refusal → E → Type 0) → Result Tally E → Result ℕ E → Type 0
Delivers gives (Ok t) answer =
    (r : Result ℕ Refusal)
    × (told table.delivered r ≡ table.delivered_to (ltb 0 t.matched) t.changed)
    × Answers gives r answer
Delivers gives (Err e) answer = answer ≡ Err e

-- a datagram, judged
abbrev pub judged_as : Result Passed Refusal → slot.Judged
judged_as (Ok p) = slot.passed p.heard p.dataset.now
judged_as (Err r) = slot.refusal r
