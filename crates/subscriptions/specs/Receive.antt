-- A PD telegram that arrives: what the table's rules say, and the statistics after it.
use Rattle.std.specs.Prelude.{ℕ, ◌≡◌, List, [], ◌∷◌, cond}
use Rattle.telegram.specs.declared.Family.TheVariants.{Pd}
use Rattle.arrival.specs.declared.Arrival.{Arrival}
use Rattle.statistics.specs.declared.Statistics.{Statistics}
use Rattle.statistics.specs.Statistics.{added, Arrived}
use Rattle.subscription.specs.declared.Subscription.{Subscription}
use Rattle.subscription_table.specs.Table.{Call, subscribe, unsubscribe, telegram, time_check, read, Answer, Table, step}
use Rattle.subscription_decisions.specs.Receive.{uncounted, outcome_of}

-- one for received and one for the outcome
abbrev pub recorded : Answer → Statistics → Statistics
recorded a s = cond (uncounted a) s (added Pd (outcome_of a) s)

-- a telegram over lent records, store and statistics
pub record Receives (a : Arrival) (datagram : List ℕ) (records : List Subscription) (store : List ℕ) (statistics : Statistics)
    (answer : Answer) (records' : List Subscription) (store' : List ℕ) (statistics' : Statistics) : Type 0 where
  pub answers : answer ≡ (step (telegram a datagram) (record { records = records; store = store })).answer
  pub records-after : records' ≡ (step (telegram a datagram) (record { records = records; store = store })).after.records
  pub store-after : store' ≡ (step (telegram a datagram) (record { records = records; store = store })).after.store
  pub statistics-after : statistics' ≡ recorded answer statistics

-- ---- a list of calls

-- the statistics after a call: every telegram is added, and nothing else
abbrev pub statistics_after : Call → Answer → Statistics → Statistics
statistics_after (subscribe q time) x s = s
statistics_after (unsubscribe k) x s = s
statistics_after (telegram a d) x s = recorded x s
statistics_after (time_check time) x s = s
statistics_after (read k set) x s = s

-- .. and after a list of calls from given tables
abbrev pub statistics_over : List Call → Table → Statistics → Statistics
statistics_over [] t s = s
statistics_over (c ∷ calls) t s = statistics_over calls (step c t).after (statistics_after c (step c t).answer s)

-- the telegrams of the list that count, each with its outcome
abbrev pub entered : Call → Answer → List Arrived → List Arrived
entered (subscribe q time) x more = more
entered (unsubscribe k) x more = more
entered (telegram a d) x more = cond (uncounted x) more (record { family = Pd; outcome = outcome_of x } ∷ more)
entered (time_check time) x more = more
entered (read k set) x more = more

abbrev pub history : List Call → Table → List Arrived
history [] t = []
history (c ∷ calls) t = entered c (step c t).answer (history calls (step c t).after)
