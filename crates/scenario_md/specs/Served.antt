-- What a line's answer is, and the octets of listeners and sessions and the statistics after it: those of the rules;
-- as they were where it asks nothing.
use Rattle.std.specs.Prelude.{ℕ, ◌≡◌, List, get_or, Option as Given}
use Rattle.std.proofs.Math.Option.{Option, none, some}
use Rattle.answer.specs.declared.Room.{Room}
use Rattle.answer.specs.Said.{Answered}
use Rattle.statistics.specs.declared.Statistics.{Statistics}
use Rattle.session.specs.Session.{free_session}
use Rattle.session_table.specs.Table.{Tables, Call, listen, unlisten, calling, telegram, reply, confirm, time_check}
use Rattle.session_table.specs.Table.{Answer, step}
use Rattle.messages.specs.History.{statistics_after}
use Rattle.packed.specs.Packed.{tables_of}
use Rattle.packed_slots.specs.Calls.{octets_after}
use Rattle.scenario_md_words.specs.Words.{answer_words, heard_words, slot_words}
use Rattle.scenario_md.specs.Lines.{Asked, calls, looks}

-- a call's answer; a telegram's refusal gives its status
abbrev pub call_words : Call → Answer → List (List ℕ)
call_words (listen com_id senders u) x = answer_words x
call_words (unlisten k) x = answer_words x
call_words (calling id timeout time) x = answer_words x
call_words (telegram a d) x = heard_words x
call_words (reply k type timeout time) x = answer_words x
call_words (confirm k) x = answer_words x
call_words (time_check time) x = answer_words x

abbrev pub words_of : Option Asked → Tables → Option (List (List ℕ))
words_of none t = none
words_of (some (calls c)) t = some (call_words c (step c t).answer)
words_of (some (looks k)) t = some (slot_words k (get_or t.sessions k free_session))

-- the tables after what was asked, and the octets that hold them
abbrev pub tables_after : Option Asked → Tables → Tables
tables_after none t = t
tables_after (some (calls c)) t = (step c t).after
tables_after (some (looks k)) t = t

abbrev pub octets_left : Option Asked → List ℕ → List ℕ
octets_left none o = o
octets_left (some (calls c)) o = octets_after c o
octets_left (some (looks k)) o = o

abbrev pub statistics_of : Option Asked → Tables → Statistics → Statistics
statistics_of none t s = s
statistics_of (some (calls c)) t s = statistics_after c (step c t).answer s
statistics_of (some (looks k)) t s = s

-- a user's line, its answer put into a room; it counts nothing
pub record Serves (q : Option Asked) (octets : List ℕ) (before : Room) (r : Given (Unit {0}))
    (octets' : List ℕ) (after : Room) : Type 0 where
  pub words : Answered (words_of q (tables_of octets)) before r after
  pub means : tables_of octets' ≡ tables_after q (tables_of octets)
  pub leaves : octets' ≡ octets_left q octets
  pub statistics : (n : Statistics) → n ≡ statistics_of q (tables_of octets) n

-- a line
pub record Answers (q : Option Asked) (octets : List ℕ) (s : Statistics) (before : Room) (r : Given (Unit {0}))
    (octets' : List ℕ) (s' : Statistics) (after : Room) : Type 0 where
  pub words : Answered (words_of q (tables_of octets)) before r after
  pub means : tables_of octets' ≡ tables_after q (tables_of octets)
  pub leaves : octets' ≡ octets_left q octets
  pub statistics : s' ≡ statistics_of q (tables_of octets) s
