-- A line's answer, and what it leaves to the next: the state, the description run's memory and the store.
use Rattle.std.specs.Prelude.{ℕ, ◌≡◌, cond, eqb, List, length, drop, replicate, None, Option as Maybe}
use Rattle.std.proofs.Math.Option.{Option, none, some}
use Rattle.topography.specs.declared.TopoCounts.{TopoCounts}
use Rattle.statistics.specs.declared.Statistics.{Statistics}
use Rattle.statistics.specs.Statistics.{no_statistics}
use Rattle.subscription.specs.Record.{free_record}
use Rattle.packed.specs.Packed.{tables_of}
use Rattle.line.specs.Line.{verb_is, with_end, with_number, eight}
use Rattle.answer.specs.Answer.{ascii, word}
use Rattle.answer.specs.declared.Room.{Room}
use Rattle.answer.specs.Lent.{Fills}
use Rattle.answer.specs.Said.{pieces_of, Answered}
use Rattle.publication.specs.declared.Publication.{Publication}
use Rattle.scenario_wire.specs.Wire.{wire_answer}
use Rattle.scenario_wire.specs.Publications as publications
use Rattle.scenario_data.specs.Data as description
use Rattle.lent.specs.declared.Slots.{Slots}
use Rattle.scenario_pd.specs.Lines as pd
use Rattle.scenario_md.specs.Lines.{asked_of}
use Rattle.scenario_md.specs.Served as md
use Rattle.scenario_calls.specs.declared.State.{State}
use Rattle.scenario_calls.specs.Counters.{statistics_words}

-- before the first line: counters 0 and 0, no publication, an empty description run; 32 slots lent of 40 free ones and
-- 1432 octets for each; the octets of 16 free listeners and sessions, all zero; nothing counted
unfoldable pub at_start : State
at_start =
    record {
      local = record { etb_topo_cnt = 0; op_trn_topo_cnt = 0 };
      held = None;
      numbers = 0;
      slots = record { records = replicate 40 free_record; lent = 32; octets = 45824 };
      tables = replicate 1280 0;
      statistics = no_statistics;
    }

-- the words of a line's answer, none where it is a line of other verbs or of another form; what it leaves
pub record Effect : Type 0 where
  pub words : Option (List (List ℕ))
  pub state : State
  pub descriptions : List ℕ
  pub store : List ℕ

-- the same of a line that knows no lent memory
pub record Turn : Type 0 where
  pub words : Option (List (List ℕ))
  pub state : State

-- the first that has words
abbrev pub first_of : {A : Type 0} → Option (List (List ℕ)) → A → A → A
first_of none e f = f
first_of (some ws) e f = e

abbrev pub or_else : Effect → Effect → Effect
or_else e f = first_of e.words e f

abbrev pub or_next : Turn → Turn → Turn
or_next e f = first_of e.words e f

-- a state with other counters; another publication; another count of numbers; other slots, tables and statistics
abbrev pub with_local : TopoCounts → State → State
with_local l x =
    record {
      local = l;
      held = x.held;
      numbers = x.numbers;
      slots = x.slots;
      tables = x.tables;
      statistics = x.statistics;
    }

abbrev pub with_held : Maybe Publication → State → State
with_held h x =
    record {
      local = x.local;
      held = h;
      numbers = x.numbers;
      slots = x.slots;
      tables = x.tables;
      statistics = x.statistics;
    }

abbrev pub with_numbers : ℕ → State → State
with_numbers n x =
    record {
      local = x.local;
      held = x.held;
      numbers = n;
      slots = x.slots;
      tables = x.tables;
      statistics = x.statistics;
    }

abbrev pub with_slots : Slots → Statistics → State → State
with_slots t n x =
    record {
      local = x.local;
      held = x.held;
      numbers = x.numbers;
      slots = t;
      tables = x.tables;
      statistics = n;
    }

abbrev pub with_tables : List ℕ → Statistics → State → State
with_tables t n x =
    record {
      local = x.local;
      held = x.held;
      numbers = x.numbers;
      slots = x.slots;
      tables = t;
      statistics = n;
    }

-- words and a state
abbrev pub saying : Option (List (List ℕ)) → State → Turn
saying ws x = record { words = ws; state = x }

-- the memory lent stays as it was
abbrev pub lending : Turn → List ℕ → List ℕ → Effect
lending e descriptions store =
    record { words = e.words; state = e.state; descriptions = descriptions; store = store }

-- the counters that two fields of 8 digits say
abbrev pub counters_in : ℕ → ℕ → TopoCounts
counters_in etb op_trn = record { etb_topo_cnt = eight etb; op_trn_topo_cnt = eight op_trn }

-- `local ETB(8) OPTRN(8)`: counters
unfoldable pub local_said : List ℕ → Option TopoCounts
local_said s =
    with_number (drop 5 s) 8 (λ etb left.
    with_number left 8 (λ op_trn left. with_end left (counters_in etb op_trn)))

-- `ok`, and these are the local counters from now on
abbrev pub set_local : Option TopoCounts → State → Turn
set_local none x = saying none x
set_local (some l) x = saying (some (word "ok")) (with_local l x)

-- each kind of line, in a state
module _ (x : State) (s : List ℕ) where
  -- `local`
  unfoldable pub local_effect : Turn
  local_effect = set_local (local_said s) x

  -- `stats`, the verb alone
  unfoldable pub stats_effect : Turn
  stats_effect = saying (cond (eqb (length s) 5) (some (statistics_words x.statistics)) none) x

  -- telegrams and the frame check
  unfoldable pub wire_effect : Turn
  wire_effect = saying (wire_answer s) x

  -- the publication
  unfoldable pub publication_effect : Turn
  publication_effect =
      let said = publications.publication_said x.held s in
      saying (publications.words_of said) (with_held (publications.held_after x.held said) x)

  -- listeners and sessions
  unfoldable pub message_effect : Turn
  message_effect =
      let asked = asked_of x.local s in
      saying
      (md.words_of asked (tables_of x.tables))
      (with_tables (md.octets_left asked x.tables) (md.statistics_of asked (tables_of x.tables) x.statistics) x)

  -- the lines that know no lent memory: by the verb, or the first that has words
  unfoldable pub plain_effect : Turn
  plain_effect =
      cond (verb_is s (ascii "local")) local_effect
      (cond (verb_is s (ascii "stats")) stats_effect
      (or_next wire_effect (or_next message_effect publication_effect)))

-- .. with the memory lent for descriptions and the store
module _ (x : State) (descriptions store s : List ℕ) where
  -- the description run
  unfoldable pub data_effect : Effect
  data_effect =
      let said = description.data_said x.numbers descriptions s in
      record {
        words = description.words_of said;
        state = with_numbers (description.numbers_after x.numbers said) x;
        descriptions = description.run_after descriptions said;
        store = store;
      }

  -- subscriptions
  unfoldable pub process_effect : Effect
  process_effect =
      let e = pd.effect_of x.local s x.slots store in
      record {
        words = e.words;
        state = with_slots e.slots (pd.statistics_of x.local s x.slots store x.statistics) x;
        descriptions = descriptions;
        store = e.store;
      }

  -- a line of none is answered `bad line`, and changes nothing
  unfoldable pub effect_of : Effect
  effect_of =
      or_else process_effect
      (or_else data_effect
      (lending (or_next (plain_effect x s) (saying (some (word "bad line")) x)) descriptions store))

-- a line's answer is put into a room, or it has none; the state is left as its effect says
pub record Leaves (e : Turn) (before : Room) (r : Maybe (Unit {0})) (x : State) (after : Room) : Type 0 where
  pub words : Answered e.words before r after
  pub state : x ≡ e.state

-- the answer of an effect that always has words, and what it leaves
pub record Answers (e : Effect) (before : Room) (x : State) (run octets : List ℕ) (after : Room) : Type 0 where
  pub state : x ≡ e.state
  pub fills : Fills (pieces_of e.words) before after
  pub descriptions : run ≡ e.descriptions
  pub store : octets ≡ e.store
