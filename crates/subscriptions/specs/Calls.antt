-- The calls over a lent table: each answers and leaves what the table's rules say.
use Rattle.std.specs.Prelude.{ℕ, ◌*◌, ◌≡◌, List, replicate}
use Rattle.octets.specs.Octets.{put}
use Rattle.subscription.specs.declared.Subscription.{Subscription}
use Rattle.subscription_table.specs.Slot.{slot_octets}
use Rattle.subscription_table.specs.Table as table
use Rattle.subscription_table.specs.Table.{Call, step}
use Rattle.subscriptions.specs.declared.Table.{Table}

-- a call over lent records and store
pub record Follows (c : Call) (records : List Subscription) (store : List ℕ) (answer : table.Answer)
    (records' : List Subscription) (store' : List ℕ) : Type 0 where
  pub answers : answer ≡ (step c (record { records = records; store = store })).answer
  pub records-after : records' ≡ (step c (record { records = records; store = store })).after.records
  pub store-after : store' ≡ (step c (record { records = records; store = store })).after.store

-- the same records and the same store are lent
pub record Lends (t t' : Table) : Type 0 where
  pub slots : t'.slots.ghost_name ≡ t.slots.ghost_name
  pub store : t'.store.ghost_name ≡ t.store.ghost_name

-- .. and a call follows the rules
pub record Obeys (c : Call) (t : Table) (answer : table.Answer) (t' : Table) : Type 0 where
  pub slots : t'.slots.ghost_name ≡ t.slots.ghost_name
  pub store : t'.store.ghost_name ≡ t.store.ghost_name
  pub follows : Follows c t.slots.now t.store.now answer t'.slots.now t'.store.now

-- slot k's part is zeroed
abbrev pub cleared : ℕ → List ℕ → List ℕ
cleared k store = put (k * slot_octets) (replicate slot_octets 0) store
