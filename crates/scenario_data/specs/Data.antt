-- The calls over a description run: what a line says, the words of its answer, and the run after it.
use Rattle.std.specs.Prelude.{ℕ, zero, suc, ◌/◌, ◌%◌, ◌≡◌, List, [], ◌∷◌, Bool, cond, ◌&&◌, eqb, leb, length}
use Rattle.std.specs.Prelude.{take, drop, Result, Ok, Err, Option as Maybe}
use Rattle.std.proofs.Math.Option.{Option, none, some}
use Rattle.octets.specs.Octets.{big, put}
use Rattle.dataset.specs.declared.Form.{Form}
use Rattle.dataset.specs.declared.Form.TheVariants.{Wire, Host}
use Rattle.refusal.specs.declared.Refusal.{Refusal}
use Rattle.refusal.specs.Refusal as refusal
use Rattle.dataset.specs.Walk.{whole_of, refusal_of, done_of}
use Rattle.line.specs.Line.{verb_is, with_number, with_octets, eight, four, target_of, target_words}
use Rattle.answer.specs.Answer.{ascii, word, refused}
use Rattle.answer.specs.declared.Room.{Room}
use Rattle.answer.specs.Said.{Answered}

-- the words of an answer, how many numbers the run has from then on, and the memory lent for it
pub record Said : Type 0 where
  pub words : List (List ℕ)
  pub numbers : ℕ
  pub run : List ℕ

-- n numbers, 4 octets a number, big endian
abbrev pub numbers_of : ℕ → List ℕ → List ℕ
numbers_of zero d = []
numbers_of (suc n) d = big (take 4 d) ∷ numbers_of n (drop 4 d)

-- so many octets are a multiple of 4, and their numbers no more than there is room for
abbrev pub is_run : ℕ → ℕ → Bool
is_run n room = eqb (n % 4) 0 && leb (n / 4) room

-- octets that are a run become the run; others are a bad line and keep the old run
unfoldable pub run_said : List ℕ → List ℕ → Option Said
run_said run d =
    cond (is_run (length d) (length run))
    (some (record { words = word "ok"; numbers = length d / 4; run = put 0 (numbers_of (length d / 4) d) run }))
    none

abbrev pub or_none : {A : Type 0} → Option (Option A) → Option A
or_none none = none
or_none (some x) = x

-- `types OCTETS`
unfoldable pub types_said : List ℕ → List ℕ → Option Said
types_said run s = or_none (with_octets (drop 5 s) (run_said run))

-- a conversion's answer beside its target, where no check refuses: a word, LENGTH and the whole TARGET; or the first
-- check's refusal
abbrev pub done_words : {V : Type 0} → List ℕ → Result V Refusal → ℕ → List ℕ → List (List ℕ)
done_words done (Ok v) n target = target_words done n target
done_words done (Err r) n target = refused (refusal.number r)

-- data of a form, the dataset of an id, converted to the other form at the front of a target
unfoldable pub convert_words : Form → List ℕ → List ℕ → ℕ → List ℕ → List ℕ → List (List ℕ)
convert_words form done run id before d =
    let w = whole_of form run id d in
    done_words done (refusal_of w (length d) (length before)) (length d) (put 0 (done_of w) before)

-- ID(8) ROOM(4) OCTETS behind a verb of 6 letters
unfoldable pub convert_answer : Form → List ℕ → List ℕ → List ℕ → Option (List (List ℕ))
convert_answer form done run s =
    with_number (drop 6 s) 8
    (λ id left. with_number left 4
    (λ room left. with_octets left (convert_words form done run (eight id) (target_of (four room)))))

-- an answer that leaves the run as it was
abbrev pub keeping : ℕ → List ℕ → Option (List (List ℕ)) → Option Said
keeping numbers run none = none
keeping numbers run (some ws) = some (record { words = ws; numbers = numbers; run = run })

-- a line of these verbs, where the run is the first numbers of the memory lent:
-- `tohost` takes wire data, `towire` host data
unfoldable pub data_said : ℕ → List ℕ → List ℕ → Option Said
data_said numbers run s =
    cond (verb_is s (ascii "types")) (types_said run s)
    (cond (verb_is s (ascii "tohost")) (keeping numbers run (convert_answer Wire (ascii "host") (take numbers run) s))
    (cond (verb_is s (ascii "towire")) (keeping numbers run (convert_answer Host (ascii "wire") (take numbers run) s))
    none))

-- the words; the run after a line: a bad one leaves it
abbrev pub words_of : Option Said → Option (List (List ℕ))
words_of none = none
words_of (some x) = some x.words

abbrev pub numbers_after : ℕ → Option Said → ℕ
numbers_after numbers none = numbers
numbers_after numbers (some x) = x.numbers

abbrev pub run_after : List ℕ → Option Said → List ℕ
run_after run none = run
run_after run (some x) = x.run

-- what a line's call answers, and what it leaves of the run, the memory lent for it, and the room
pub record Describes
    (said : Option Said) (numbers : ℕ) (run : List ℕ) (before : Room) (r : Maybe (Unit {0})) (left : ℕ)
    (memory : List ℕ) (out : Room) : Type 0 where
  pub words : Answered (words_of said) before r out
  pub counted : left ≡ numbers_after numbers said
  pub lent : memory ≡ run_after run said
