-- A call that is lent the first slots of a table held by value, and the first octets of a store.
use Rattle.std.specs.Prelude.{ℕ, ◌≡◌, List, ◌++◌, take, drop}
use Rattle.subscription.specs.declared.Subscription.{Subscription}
use Rattle.subscription_table.specs.Table as table
use Rattle.subscription_table.specs.Table.{Call, Table, telegram, step}
use Rattle.arrival.specs.declared.Arrival.{Arrival}
use Rattle.statistics.specs.declared.Statistics.{Statistics}
use Rattle.subscriptions.specs.Receive.{recorded}
use Rattle.subscriptions.specs.Calls.{Lends}
use Rattle.subscriptions.specs.declared.Table as lent
use Rattle.lent.specs.declared.Slots.{Slots}

-- what a call is lent
abbrev pub lent_table : ℕ → List Subscription → List ℕ → Table
lent_table n slots store = record { records = take n slots; store = store }

-- .. so many slots, from slot 0 on, and so many octets of the store
abbrev pub lent_of : Slots → List ℕ → Table
lent_of t store = lent_table t.lent t.records (take t.octets store)

abbrev pub with_records : List Subscription → Slots → Slots
with_records rs t = record { records = rs; lent = t.lent; octets = t.octets }

-- a call on the table that is lent: where it lends the same records and store on, the others stay
pub record Runs {R : Type 0} (call : lent.Table → R → lent.Table → Type 0) (t : Slots) (store : List ℕ) (result : R)
    (t' : Slots) (store' : List ℕ) : Type 0 where
  pub before : lent.Table
  pub after : lent.Table
  pub slots-before : before.slots.now ≡ take t.lent t.records
  pub store-before : before.store.now ≡ take t.octets store
  pub ran : call before result after
  pub slots-after : Lends before after → t' ≡ with_records (after.slots.now ++ drop t.lent t.records) t
  pub store-after : Lends before after → store' ≡ after.store.now ++ drop t.octets store

-- the answer, the slots lent and the octets lent are as the table's rules say; the others stay
pub record Serves (c : Call) (t : Slots) (store : List ℕ) (answer : table.Answer) (t' : Slots) (store' : List ℕ)
    : Type 0 where
  pub answers : answer ≡ (step c (lent_of t store)).answer
  pub slots-after : t' ≡ with_records ((step c (lent_of t store)).after.records ++ drop t.lent t.records) t
  pub store-after : store' ≡ (step c (lent_of t store)).after.store ++ drop t.octets store

-- a telegram: and it is added to the statistics
pub record Receives (a : Arrival) (datagram : List ℕ) (t : Slots) (store : List ℕ) (statistics : Statistics)
    (answer : table.Answer) (t' : Slots) (store' : List ℕ) (statistics' : Statistics) : Type 0 where
  pub serves : Serves (telegram a datagram) t store answer t' store'
  pub statistics-after : statistics' ≡ recorded answer statistics
