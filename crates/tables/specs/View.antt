-- A table that stands in a larger state beside others: some of the state's calls and answers are its own, and all other
-- calls leave it as it is.
use Rattle.std.specs.Prelude.{Bool, false}
use Rattle.std.proofs.Math.Option.{Option, none, some}
use Rattle.tables.specs.Trace.{Outcome}
use Rattle.tables.specs.Watch.{Watch}

-- the table in the state, and the state with nothing beside it; its calls and answers as the state's, and which of the
-- state's are its own
pub record View (C A T D B S : Type 0) : Type 0 where
  pub part : S → T
  pub whole : T → S
  pub call : C → D
  pub answer : A → B
  pub own_call : D → Option C
  pub own_answer : B → Option A

abbrev pub mapped : {X Y : Type 0} → (X → Y) → Option X → Option Y
mapped f none = none
mapped f (some x) = some (f x)

module _ {C A T D B S : Type 0} (v : View C A T D B S) where
  -- another table's call is struck out
  abbrev pub fed_of : Watch C A T → Option C → Option D
  fed_of w none = none
  fed_of w (some c) = mapped v.call (w.fed c)

  abbrev pub heard_of : (C → A → Option A) → Option C → Option A → Option B
  heard_of f none a = none
  heard_of f (some c) none = none
  heard_of f (some c) (some a) = mapped v.answer (f c a)

  abbrev pub gave1_of : (A → Bool) → Option A → Bool
  gave1_of f none = false
  gave1_of f (some a) = f a

  -- a slot of the table, watched over the calls of the whole state
  abbrev pub viewed : (D → S → Outcome B S) → Watch C A T → Watch D B S
  viewed step w =
      record {
        step = step;
        slot = λ s. v.whole (w.slot (v.part s));
        free = λ s. w.free (v.part s);
        fed = λ d. fed_of w (v.own_call d);
        hears = λ d b. heard_of w.hears (v.own_call d) (v.own_answer b);
        hears_alone = λ d b. heard_of w.hears_alone (v.own_call d) (v.own_answer b);
        gave1 = λ b. gave1_of w.gave1 (v.own_answer b);
      }
