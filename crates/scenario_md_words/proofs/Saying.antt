-- What a telegram's answer says is what it is heard to say.
-- Assumes nothing.
use Rattle.std.proofs.Common.{◌≡◌, refl, Ok, Err, Result, sym}
use mathlib.Core.List.{append-nil}
use Rattle.session_table.specs.declared.Arrived.{Arrived}
use Rattle.session_table.specs.declared.Arrived.TheVariants.{Notified, Requested, Taken}
use Rattle.session_table.specs.declared.MdRefusal.{MdRefusal}
use Rattle.session_table.specs.Calls.{heard}
use Rattle.scenario_md_words.specs.Words.{heard_words}
use Rattle.scenario_md_words.specs.Said.{said_of, said_words}

pub said_as_heard : (r : Result Arrived MdRefusal) → said_words (said_of r) ≡ heard_words (heard r)
said_as_heard (Ok (Notified l)) = sym (append-nil _)
said_as_heard (Ok (Requested l k)) = sym (append-nil _)
said_as_heard (Ok (Taken status k)) = sym (append-nil _)
said_as_heard (Err e) = refl
