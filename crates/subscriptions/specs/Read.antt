-- Reading a slot of a lent table.
use Rattle.std.specs.Prelude.{ℕ, ◌≡◌, List, Result}
use Rattle.subscription_table.specs.Table as table
use Rattle.subscription_table.specs.Table.{step}
use Rattle.subscription.specs.declared.Subscription.{Subscription}
use Rattle.refusal.specs.declared.Refusal.{Refusal}
use Rattle.subscription_decisions.specs.declared.View.{View}
use Rattle.subscription_decisions.specs.Read.{shown}

-- whatever the substitute set is, the answer is the table's
pub record Reads (k : ℕ) (records : List Subscription) (store : List ℕ) (r : Result View Refusal) : Type 0 where
  pub answers : (set : List ℕ) → shown k set store r
      ≡ (step (table.read k set) (record { records = records; store = store })).answer
