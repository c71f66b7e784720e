-- What a line over subscriptions answers, and what it leaves.
use Rattle.std.specs.Prelude.{◌≡◌, List, ◌++◌, ℕ, drop, Option as Maybe}
use Rattle.std.proofs.Math.Option.{Option, none, some}
use Rattle.answer.specs.declared.Room.{Room}
use Rattle.subscription_table.specs.Table.{Call, step}
use Rattle.statistics.specs.declared.Statistics.{Statistics}
use Rattle.subscriptions.specs.Receive.{statistics_after}
use Rattle.scenario_pd_words.specs.Words.{answer_words}
use Rattle.answer.specs.Said.{Answered}
use Rattle.lent.specs.declared.Slots.{Slots}
use Rattle.lent.specs.Lent.{lent_of, with_records}

-- the words of a line's answer, none where it is a bad line; the slots and the store after it
pub record Effect : Type 0 where
  pub words : Option (List (List ℕ))
  pub slots : Slots
  pub store : List ℕ

-- words, or a bad line: all stays as it was
abbrev pub saying : Option (List (List ℕ)) → Slots → List ℕ → Effect
saying words t store = record { words = words; slots = t; store = store }

-- a call answers and leaves what the table's rules say of the slots and octets lent; the others stay
unfoldable pub calling : Option Call → Slots → List ℕ → Effect
calling none t store = saying none t store
calling (some c) t store =
    record {
      words = some (answer_words (step c (lent_of t store)).answer);
      slots = with_records ((step c (lent_of t store)).after.records ++ drop t.lent t.records) t;
      store = (step c (lent_of t store)).after.store ++ drop t.octets store;
    }

-- the statistics after a call: a telegram is added
unfoldable pub counting : Option Call → Slots → List ℕ → Statistics → Statistics
counting none t store statistics = statistics
counting (some c) t store statistics = statistics_after c (step c (lent_of t store)).answer statistics

-- a line's answer fills a room, and slots and store are left as its effect says
pub record Turns (e : Effect) (before : Room) (r : Maybe (Unit {0})) (slots : Slots) (store : List ℕ) (after : Room)
    : Type 0 where
  pub words : Answered e.words before r after
  pub slots-after : slots ≡ e.slots
  pub store-after : store ≡ e.store
