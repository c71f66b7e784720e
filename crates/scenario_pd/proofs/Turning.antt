-- A call over the slots and octets lent, and a line that asks for it.
-- Assumes nothing.
use mathlib.Core.Path.{◌≡◌, refl, ap, ◌∙◌}
use mathlib.Core.List.{List}
use mathlib.Core.Option.{Option, none, some}
use Prim.Native.Nat.{ℕ}
use Rattle.std.specs.Prelude.{Option as Maybe, Some, None}
use Rattle.arrival.specs.declared.Arrival.{Arrival}
use Rattle.statistics.specs.declared.Statistics.{Statistics}
use Rattle.answer.specs.declared.Room.{Room}
use Rattle.answer.specs.Lent.{Fills}
use Rattle.answer.proofs.Rooms.{filled_as}
use Rattle.subscription_table.specs.Table.{Call, telegram, Answer}
use Rattle.subscriptions.specs.Receive.{recorded}
use Rattle.lent.specs.declared.Slots.{Slots}
use Rattle.lent.specs.Lent.{Serves, Receives}
use Rattle.answer.proofs.Said.{answered_by, not_answered}
use Rattle.scenario_pd_words.specs.Words.{answer_words}
use Rattle.scenario_pd.specs.Effect.{calling, counting, Turns}

module _ (t : Slots) (store : List ℕ) where
  -- a call that serves
  pub served : (c : Call) {answer : Answer} {t' : Slots} {store' : List ℕ} {o o' : Room}
      → Serves c t store answer t' store' → Fills (answer_words answer) o o'
      → Turns (calling (some c) t store) o (Some tt) t' store' o'
  unfolding calling
  served c s p =
      record {
        words = answered_by refl (filled_as _ (ap answer_words s.answers) p);
        slots-after = s.slots-after;
        store-after = s.store-after;
      }

  module _ {x : Option Call} where
    -- a line that asks for a call
    pub turned : {c : Call} {answer : Answer} {t' : Slots} {store' : List ℕ} {o o' : Room}
        → x ≡ some c → Serves c t store answer t' store' → Fills (answer_words answer) o o'
        → Turns (calling x t store) o (Some tt) t' store' o'
    turned {c} q s p = rw q (served c s p)

    pub counted : {a : Arrival} {d : List ℕ} {n : Statistics}
        {answer : Answer} {t' : Slots} {store' : List ℕ} {n' : Statistics}
        → x ≡ some (telegram a d) → Receives a d t store n answer t' store' n' → n' ≡ counting x t store n
    unfolding counting
    counted {n = n} q s = rw q (s.statistics-after ∙ ap (λ (z : Answer). recorded z n) s.serves.answers)

    -- one that asks for none
    pub uncalled : {r : Maybe (Unit {0})} (o : Room) → r ≡ None → x ≡ none → Turns (calling x t store) o r t store o
    unfolding calling
    uncalled o e q = rw (e, q) (record { words = not_answered refl o; slots-after = refl; store-after = refl })

    pub uncounted : (n : Statistics) → x ≡ none → n ≡ counting x t store n
    unfolding counting
    uncounted n q = rw q refl
