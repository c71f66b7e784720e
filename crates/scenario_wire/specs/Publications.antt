-- The calls over one publication: what a line says, the words of its answer, and the publication after it.
use Rattle.std.specs.Prelude.{ℕ, ◌≡◌, List, cond, length, drop, Option as Maybe, None, Some}
use Rattle.std.proofs.Math.Option.{Option, none, some}
use Rattle.refusal.specs.Refusal.{first_of, after}
use Rattle.pd.specs.Pd.{frame_of}
use Rattle.publication.specs.declared.Publication.{Publication}
use Rattle.publication.specs.Publication.{made_of, send_checks, sent_at}
use Rattle.line.specs.Line.{verb_is, with_number, with_octets, with_end, eight, four, target_of}
use Rattle.answer.specs.Answer.{ascii, word}
use Rattle.answer.specs.declared.Room.{Room}
use Rattle.answer.specs.Said.{Answered}
use Rattle.scenario_wire.specs.Wire.{with_found, pd_fields, wrote_words}

-- the words of an answer, and the publication from then on
pub record Said : Type 0 where
  pub words : List (List ℕ)
  pub held : Maybe Publication

-- `pub VERSION(4) TYPE(4) COMID(8) ETB(8) OPTRN(8) RESERVED(8) REPLYCOMID(8) REPLYIP(8) CYCLE(8)`:
-- `ok`, and nothing sent yet
unfoldable pub pub_said : List ℕ → Option Said
pub_said s =
    with_found (pd_fields (drop 3 s) 0)
    (λ header left. with_number left 8
    (λ cycle left. with_end left (record { words = word "ok"; held = Some (made_of header (eight cycle)) })))

-- a publication sent at a time into a target, refusal being the first of its checks that is given
unfoldable pub sent_said : Publication → ℕ → List ℕ → List ℕ → Said
sent_said p time before d =
    let judged = first_of (send_checks p time (length d) (length before)) in
    record {
      words = wrote_words (ascii "sent") judged (frame_of p.header d) before;
      held = Some (after judged (sent_at p time) p);
    }

-- `send NOW(16) ROOM(4) OCTETS`; with no `pub` before it, a bad line
unfoldable pub send_said : Maybe Publication → List ℕ → Option Said
send_said None s = none
send_said (Some p) s =
    with_number (drop 4 s) 16
    (λ time left. with_number left 4
    (λ room left. with_octets left (sent_said p time (target_of (four room)))))

-- a line of these verbs
unfoldable pub publication_said : Maybe Publication → List ℕ → Option Said
publication_said held s =
    cond (verb_is s (ascii "pub")) (pub_said s)
    (cond (verb_is s (ascii "send")) (send_said held s)
    none)

-- the words; the publication after a line: a bad one leaves it
abbrev pub words_of : Option Said → Option (List (List ℕ))
words_of none = none
words_of (some x) = some x.words

abbrev pub held_after : Maybe Publication → Option Said → Maybe Publication
held_after held none = held
held_after held (some x) = x.held

-- what a line's call answers, and what it leaves of the publication and of the room
pub record Publishes (said : Option Said) (held : Maybe Publication) (before : Room) (r : Maybe (Unit {0}))
    (left : Maybe Publication) (out : Room) : Type 0 where
  pub words : Answered (words_of said) before r out
  pub publication : left ≡ held_after held said
