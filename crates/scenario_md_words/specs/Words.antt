-- What the calls over listeners and sessions answer, in words.
use Rattle.std.specs.Prelude.{ℕ, cond, List, [], ◌∷◌, ◌++◌, ltb, ℤ}
use Rattle.octets.specs.Octets.{unsigned}
use Rattle.refusal.specs.Refusal.{number as number_of}
use Rattle.refusal.specs.declared.Refusal.TheVariants as refusals
use Rattle.timing.specs.declared.Timing.{Timing}
use Rattle.answer.specs.Answer.{ascii, spaced, word, word_of, decimal, number, octets, signed, refused}
use Rattle.session.specs.declared.Session.{Session}
use Rattle.session.specs.declared.SessionState.{SessionState}
use Rattle.session.specs.declared.SessionState.TheVariants.{Free, WaitingForReply, OwingConfirm, WithUser, WaitingForConfirm}
use Rattle.session_table.specs.Table as table
use Rattle.session_table.specs.Table.{Answer, listening, freed, opened, notified, requested, taken, replied, confirmed, codes}

-- signed numbers one after the other
abbrev pub all_signed : List ℤ → List (List ℕ)
all_signed [] = []
all_signed (x ∷ xs) = signed x ++ all_signed xs

-- an answer; of a refusal its number
abbrev pub answer_words : Answer → List (List ℕ)
answer_words (listening l) = word_of (ascii "listener") l
answer_words freed = word "freed"
answer_words (opened k) = word_of (ascii "session") k
answer_words (notified l) = word_of (ascii "notified") l
answer_words (requested l k) = word_of (ascii "opened") l ++ decimal k
answer_words (taken status k) = word "taken" ++ number 8 (unsigned status) ++ decimal k
answer_words replied = word "replied"
answer_words confirmed = word "confirmed"
answer_words (codes cs) = word "codes" ++ all_signed cs
answer_words (table.refused r status) = refused (number_of r)

-- the status of a refused telegram
abbrev pub status_words : Answer → List (List ℕ)
status_words (listening l) = []
status_words freed = []
status_words (opened k) = []
status_words (notified l) = []
status_words (requested l k) = []
status_words (taken status k) = []
status_words replied = []
status_words confirmed = []
status_words (codes cs) = []
status_words (table.refused r status) = number 8 (unsigned status)

-- the answer to a telegram
abbrev pub heard_words : Answer → List (List ℕ)
heard_words x = answer_words x ++ status_words x

-- a refusal's number and its status, which may be any
abbrev pub refused_words : ℕ → ℤ → List (List ℕ)
refused_words n status = refused n ++ number 8 (unsigned status)

-- `used ID STATE START(16) TIMEOUT(8)`
abbrev pub used_words : List ℕ → List ℕ → Timing → List (List ℕ)
used_words id state t = word "used" ++ octets id ++ spaced state ++ number 16 t.start ++ number 8 t.timeout

-- a session's record: free, or what it waits for
abbrev pub record_words : List ℕ → SessionState → List (List ℕ)
record_words id Free = word "free"
record_words id (WaitingForReply t) = used_words id (ascii "reply") t
record_words id (OwingConfirm t) = used_words id (ascii "owing") t
record_words id (WithUser t) = used_words id (ascii "user") t
record_words id (WaitingForConfirm t) = used_words id (ascii "confirm") t

-- the record of a session slot below 16; else 10
abbrev pub slot_words : ℕ → Session → List (List ℕ)
slot_words k x = cond (ltb k 16) (record_words x.id x.state) (refused (number_of refusals.NoSlot))
