-- What a line of these verbs asks, field by field.
use Rattle.std.specs.Prelude.{ℕ, cond, List, drop}
use Rattle.std.proofs.Math.Option.{Option, none}
use Rattle.topography.specs.declared.TopoCounts.{TopoCounts}
use Rattle.answer.specs.Answer.{ascii}
use Rattle.line.specs.Line.{verb_is, with_number, with_field, with_end, with_octets, eight, four}
use Rattle.session_table.specs.Table.{Call, listen, unlisten, calling, telegram, reply, confirm, time_check}

pub data Asked : Type 0 where
  -- a call on the tables
  calls : Call → Asked
  -- what the record of a session slot says
  looks : ℕ → Asked

-- `listen COMID(8) START(8) END(8) URI(64)`
unfoldable pub listen_asked : List ℕ → Option Asked
listen_asked s =
    with_number (drop 6 s) 8 (λ com_id left.
    with_number left 8 (λ start left.
    with_number left 8 (λ end left.
    with_field left 32 (λ uri left.
    with_end left (calls (listen (eight com_id) (record { start = eight start; end = eight end }) uri))))))

-- `unlisten K(8)`
unfoldable pub unlisten_asked : List ℕ → Option Asked
unlisten_asked s = with_number (drop 8 s) 8 (λ k left. with_end left (calls (unlisten (eight k))))

-- `call ID(32) TIMEOUT(8) NOW(16)`
unfoldable pub call_asked : List ℕ → Option Asked
call_asked s =
    with_field (drop 4 s) 16 (λ id left.
    with_number left 8 (λ timeout left.
    with_number left 16 (λ time left. with_end left (calls (calling id (eight timeout) time)))))

-- `md SENDER(8) DEST(8) NOW(16) OCTETS`
unfoldable pub md_asked : TopoCounts → List ℕ → Option Asked
md_asked local s =
    with_number (drop 2 s) 8 (λ sender left.
    with_number left 8 (λ destination left.
    with_number left 16 (λ time left.
    with_octets left (λ d.
    calls
    (telegram (record { sender = eight sender; destination = eight destination; time = time; local = local }) d)))))

-- `reply K(8) TYPE(4) TIMEOUT(8) NOW(16)`
unfoldable pub reply_asked : List ℕ → Option Asked
reply_asked s =
    with_number (drop 5 s) 8 (λ k left.
    with_number left 4 (λ type left.
    with_number left 8 (λ timeout left.
    with_number left 16 (λ time left.
    with_end left (calls (reply (eight k) (four type) (eight timeout) time))))))

-- `confirm K(8) NOW(16)`
unfoldable pub confirm_asked : List ℕ → Option Asked
confirm_asked s =
    with_number (drop 7 s) 8 (λ k left.
    with_number left 16 (λ time left. with_end left (calls (confirm (eight k)))))

-- `mdcheck NOW(16)`
unfoldable pub check_asked : List ℕ → Option Asked
check_asked s = with_number (drop 7 s) 16 (λ time left. with_end left (calls (time_check time)))

-- `session K(8)`
unfoldable pub session_asked : List ℕ → Option Asked
session_asked s = with_number (drop 7 s) 8 (λ k left. with_end left (looks (eight k)))

-- the verbs that look at sessions
abbrev pub look_asked : List ℕ → Option Asked
look_asked s =
    cond (verb_is s (ascii "mdcheck")) (check_asked s)
    (cond (verb_is s (ascii "session")) (session_asked s) none)

-- .. and those that open, answer and confirm one
abbrev pub exchange_asked : List ℕ → Option Asked
exchange_asked s =
    cond (verb_is s (ascii "call")) (call_asked s)
    (cond (verb_is s (ascii "reply")) (reply_asked s)
    (cond (verb_is s (ascii "confirm")) (confirm_asked s) (look_asked s)))

-- .. and those over listeners: the user's verbs
unfoldable pub user_asked : List ℕ → Option Asked
user_asked s =
    cond (verb_is s (ascii "listen")) (listen_asked s)
    (cond (verb_is s (ascii "unlisten")) (unlisten_asked s) (exchange_asked s))

-- what a line asks; nothing where its verb is none of these, or it is of another form
unfoldable pub asked_of : TopoCounts → List ℕ → Option Asked
asked_of local s = cond (verb_is s (ascii "md")) (md_asked local s) (user_asked s)
