-- The lines that only look at subscriptions: `read`, `slot` and `part`.
use Rattle.std.specs.Prelude.{cond, ◌&&◌, List, ◌++◌, ℕ, ◌+◌, ◌*◌, ltb, leb, length, drop, get_or}
use Rattle.std.specs.Prelude.{Option as Maybe, Some, None}
use Rattle.std.proofs.Math.Option.{Option, none, some}
use Rattle.refusal.specs.Refusal.{number as number_of}
use Rattle.refusal.specs.declared.Refusal.TheVariants as refusal
use Rattle.octets.specs.Octets.{part}
use Rattle.fcs.specs.Fcs.{crc32}
use Rattle.line.specs.Line.{verb_is, with_end, with_octets, with_number, eight}
use Rattle.answer.specs.Answer.{ascii, word, number, refused}
use Rattle.subscription.specs.Record.{free_record}
use Rattle.subscription_table.specs.Table.{read, step}
use Rattle.scenario_pd_words.specs.Words.{answer_words, record_words}
use Rattle.lent.specs.declared.Slots.{Slots}
use Rattle.lent.specs.Lent.{lent_of}

-- `read K OCTETS`: a state and octets, or `refused R`
unfoldable pub read_answer : Slots → List ℕ → List ℕ → Option (List (List ℕ))
read_answer t store s =
    with_number (drop 4 s) 8 (λ k left.
    with_octets left (λ set. answer_words (step (read (eight k) set) (lent_of t store)).answer))

-- what a line says of a slot's number alone, behind a verb of 4 letters
abbrev pub with_slot : List ℕ → (ℕ → List (List ℕ)) → Option (List (List ℕ))
with_slot s said = with_number (drop 4 s) 8 (λ k left. with_end left (said (eight k)))

-- .. and what is said of one that was read
abbrev pub said_of : Maybe ℕ → (ℕ → List (List ℕ)) → Option (List (List ℕ))
said_of None said = none
said_of (Some k) said = some (said k)

-- below 32 the slot's record; else `refused 10`
abbrev pub slot_words : ℕ → Slots → List (List ℕ)
slot_words k t = cond (ltb k 32) (record_words (get_or t.records k free_record)) (refused (number_of refusal.NoSlot))

-- `slot K`
unfoldable pub slot_answer : Slots → List ℕ → Option (List (List ℕ))
slot_answer t s = with_slot s (λ k. slot_words k t)

-- below 32 the frame check of the slot's 1432 stored octets, which the store has; else `refused 10`
abbrev pub part_words : ℕ → List ℕ → List (List ℕ)
part_words k store =
    cond (ltb k 32 && leb (k * 1432 + 1432) (length store))
    (word "part" ++ number 8 (crc32 (part 1432 (k * 1432) store)))
    (refused (number_of refusal.NoSlot))

-- `part K`
unfoldable pub part_answer : List ℕ → List ℕ → Option (List (List ℕ))
part_answer store s = with_slot s (λ k. part_words k store)

-- by the verb; nothing for another
unfoldable pub look_answer : Slots → List ℕ → List ℕ → Option (List (List ℕ))
look_answer t store s =
    cond (verb_is s (ascii "read")) (read_answer t store s)
    (cond (verb_is s (ascii "slot")) (slot_answer t s)
    (cond (verb_is s (ascii "part")) (part_answer store s) none))
