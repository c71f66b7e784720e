-- The calls on the subscription table: each answers and leaves what the table's rules say.
use Rattle.std.specs.Prelude.{ℕ, ◌≡◌, List, cond, length, get_or}
use Rattle.octets.specs.Octets.{part}
use Rattle.refusal.specs.Refusal.{number}
use Rattle.arrival.specs.declared.Arrival.{Arrival}
use Rattle.statistics.specs.declared.Statistics.{Statistics}
use Rattle.subscription.specs.Record.{free_record, state_of}
use Rattle.subscription_table.specs.Table as table
use Rattle.subscription_table.specs.Table.{Call, fits, step, telegram, read}
use Rattle.subscription.specs.declared.Subscription.{Subscription}
use Rattle.subscription_decisions.specs.Read.{read_by}
use Rattle.subscriptions.specs.Receive.{recorded}
use Rattle.boundary.specs.declared.Outcome.{Outcome}
use Rattle.boundary.specs.declared.Shown.{Shown}
use Rattle.boundary.specs.Subscriptions.{outcome_of, of_reading}

-- a call over lent records and store
pub record Follows (c : Call) (records : List Subscription) (store : List ℕ)
    (r : Outcome) (records' : List Subscription) (store' : List ℕ) : Type 0 where
  pub answers : r ≡ outcome_of (step c (record { records = records; store = store })).answer
  pub records-after : records' ≡ (step c (record { records = records; store = store })).after.records
  pub store-after : store' ≡ (step c (record { records = records; store = store })).after.store

-- a telegram over lent records, store and statistics
pub record Receives (a : Arrival) (datagram : List ℕ) (records : List Subscription) (store : List ℕ)
    (statistics : Statistics) (r : Outcome) (records' : List Subscription) (store' : List ℕ) (statistics' : Statistics) : Type 0 where
  pub follows : Follows (telegram a datagram) records store r records' store'
  pub counts :
      statistics' ≡ recorded (step (telegram a datagram) (record { records = records; store = store })).answer statistics

-- ---- reading a slot

-- what is shown means document 01's answer, given the substitute set and the store: a state and octets, or a refusal by
-- its number
abbrev pub Means : List ℕ → List ℕ → Shown → table.Answer → Type 0
Means set store r (table.granted k) = ⊥
Means set store r table.freed = ⊥
Means set store r (table.delivered n) = ⊥
Means set store r (table.marked n) = ⊥
Means set store r (table.shows state octets) =
    (r.refusal ≡ 0) × (state_of r.state ≡ state) × (cond r.substitute set (part r.length r.start store) ≡ octets)
Means set store r (table.refused x) = r.refusal ≡ number x

-- whatever the substitute set is, the answer is the table's; and every field of it is fixed
pub record Reads (k : ℕ) (records : List Subscription) (store : List ℕ) (r : Shown) : Type 0 where
  pub answers : (set : List ℕ)
      → Means set store r (step (read k set) (record { records = records; store = store })).answer
  pub exact : r ≡ of_reading k (read_by (fits (length records) (length store)) (get_or records k free_record))
