-- What any call says, in words.
use Rattle.std.specs.Prelude.{ℕ, List, Ok, Err, Result}
use Rattle.refusal.specs.Refusal.{number}
use Rattle.session_table.specs.declared.Arrived.{Arrived}
use Rattle.session_table.specs.declared.MdRefusal.{MdRefusal}
use Rattle.session_table.specs.Calls.{arrived}
use Rattle.session_table.specs.Table as table
use Rattle.scenario_md_words.specs.Words.{answer_words, refused_words}
use Rattle.scenario_md_words.specs.declared.Said.{Said}
use Rattle.scenario_md_words.specs.declared.Said.TheVariants as said

abbrev pub said_of : Result Arrived MdRefusal → Said
said_of (Ok a) = said.Arrived a
said_of (Err e) = said.Refused (number e.refusal) e.status

-- of a telegram and of the user's calls the answer; of a refusal its status too
abbrev pub said_words : Said → List (List ℕ)
said_words (said.Arrived a) = answer_words (arrived a)
said_words (said.Listening k) = answer_words (table.listening k)
said_words (said.Opened k) = answer_words (table.opened k)
said_words said.Freed = answer_words table.freed
said_words said.Replied = answer_words table.replied
said_words said.Confirmed = answer_words table.confirmed
said_words (said.Refused n status) = refused_words n status
