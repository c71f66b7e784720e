-- What the calls over subscriptions answer, in words.
use Rattle.std.specs.Prelude.{cond, List, ◌++◌, ℕ}
use Rattle.refusal.specs.Refusal.{number as number_of}
use Rattle.answer.specs.Answer.{ascii, word, word_of, decimal, number, octets, refused as refused_words}
use Rattle.subscription.specs.declared.State.{State}
use Rattle.subscription.specs.declared.State.TheVariants.{NeverReceived, Valid, TimedOut}
use Rattle.subscription.specs.declared.LastTaken.{LastTaken}
use Rattle.subscription.specs.declared.Subscription.{Subscription}
use Rattle.subscription.specs.Record.{remembers, in_use, state_of}
use Rattle.subscription_table.specs.Table.{Answer, granted, freed, delivered, marked, shows, refused}

-- `valid`, `timedout` or `never`
abbrev pub state_words : State → List (List ℕ)
state_words NeverReceived = word "never"
state_words Valid = word "valid"
state_words TimedOut = word "timedout"

-- `slot K`, `freed`, `delivered COUNT`, `marked COUNT`, a state and OCTETS, `refused R`
abbrev pub answer_words : Answer → List (List ℕ)
answer_words (granted k) = word_of (ascii "slot") k
answer_words freed = word "freed"
answer_words (delivered n) = word_of (ascii "delivered") n
answer_words (marked n) = word_of (ascii "marked") n
answer_words (shows state o) = state_words state ++ octets o
answer_words (refused r) = refused_words (number_of r)

-- COMID START END DEST TIMEOUT BEHAVIOUR, the last of one digit (0, 1 or 2)
abbrev pub granted_words : Subscription → List (List ℕ)
granted_words r =
    number 8 r.filter.com_id
    ++ number 8 r.filter.senders.start
    ++ number 8 r.filter.senders.end
    ++ number 8 r.filter.destination
    ++ number 8 r.timing.timeout
    ++ decimal r.behaviour

-- SENDER COUNTER, those last taken; `- -` where no counter is held
abbrev pub last_words : LastTaken → List (List ℕ)
last_words l = cond (remembers l) (number 8 l.sender ++ number 8 l.counter) (word "- -")

-- `used COMID START END DEST TIMEOUT BEHAVIOUR STATE SENDER COUNTER STARTED LENGTH`, or `free`
abbrev pub record_words : Subscription → List (List ℕ)
record_words r =
    cond (in_use r)
    (word "used"
    ++ granted_words r
    ++ state_words (state_of r.state)
    ++ last_words r.last
    ++ number 16 r.timing.start
    ++ decimal r.length)
    (word "free")
