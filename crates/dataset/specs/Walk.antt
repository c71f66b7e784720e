-- The walk over a dataset, from the wire to host form and back.
use Rattle.std.specs.Prelude.{ℕ, zero, suc, ◌≡◌, List, [], ◌∷◌, ◌++◌, reverse, Bool, cond, not, ◌&&◌, ◌||◌, Option}
use Rattle.std.specs.Prelude.{Some, None, Result, Ok, Err, eqb, ltb, length, take, drop}
use Rattle.refusal.specs.Refusal.{◌when◌, first_of, answer, after}
use Rattle.refusal.specs.declared.Refusal.{Refusal}
use Rattle.refusal.specs.declared.Refusal.TheVariants as refusal
use Rattle.octets.specs.Octets.{big, little, put}
use Rattle.scalars.specs.Scalars.{parts_of, size}
use Rattle.dataset.specs.Descriptions.{Element, look_up}
use Rattle.dataset.specs.declared.Form.{Form}
use Rattle.dataset.specs.declared.Form.TheVariants.{Wire, Host}

-- a number in the form of the data walked: big endian on the wire, little endian for the host
abbrev pub number_of : Form → List ℕ → ℕ
number_of Wire s = big s
number_of Host s = little s

-- what a walk over octets comes to: a fault, or the octets left and those converted
pub data Walked : Type 0 where
  stopped : Refusal → Walked
  walked : List ℕ → List ℕ → Walked

-- octets converted before a walk
abbrev pub behind : List ℕ → Walked → Walked
behind done (stopped r) = stopped r
behind done (walked left more) = walked left (done ++ more)

-- one walk behind another
abbrev pub then : Walked → (List ℕ → Walked) → Walked
then (stopped r) more = stopped r
then (walked left done) more = behind done (more left)

-- the same walk n times
abbrev pub times : ℕ → (List ℕ → Walked) → List ℕ → Walked
times zero f d = walked d []
times (suc n) f d = then (f d) (times n f)

-- each part's octets turned round; data that end early are refused
abbrev pub turned : List ℕ → List ℕ → Walked
turned [] d = walked d []
turned (k ∷ ks) d =
    cond (ltb (length d) k) (stopped refusal.DataLength)
    (then (walked (drop k d) (reverse (take k d))) (turned ks))

-- UINT8, UINT16 or UINT32
abbrev pub counts : ℕ → Bool
counts t = eqb t 8 || eqb t 9 || eqb t 10

-- behind an element, the value that a count of 0 takes: where it is a single UINT8, UINT16 or UINT32, d being the data
-- at its start
abbrev pub count_behind : Form → Element → List ℕ → Option ℕ
count_behind f e d =
    cond (eqb e.count 1 && counts e.type) (Some (number_of f (take (size (parts_of e.type)) d))) None

-- the items of an element: count 0 takes the value of the element directly before it, else the description is malformed
abbrev pub with_items : Option ℕ → ℕ → (ℕ → Walked) → Walked
with_items c (suc n) f = f (suc n)
with_items None zero f = stopped refusal.Description
with_items (Some n) zero f = f n

-- n items of a type: a scalar, or a dataset, whose walk is nested
abbrev pub items_of : (ℕ → ℕ → List ℕ → Walked) → ℕ → ℕ → List ℕ → Walked
items_of nested t n d = cond (ltb t 17) (times n (turned (parts_of t)) d) (nested t n d)

-- the elements of a description one after the other, c being the count behind the element before
abbrev pub walk_of : Form → (ℕ → ℕ → List ℕ → Walked) → List Element → Option ℕ → List ℕ → Walked
walk_of f nested [] c d = walked d []
walk_of f nested (e ∷ es) c d =
    with_items c e.count (λ n. then (items_of nested e.type n d) (walk_of f nested es (count_behind f e d)))

-- what a look-up found, walked
abbrev pub through_found : Result (List Element) Refusal → (List Element → Walked) → Walked
through_found (Ok es) f = f es
through_found (Err r) f = stopped r

-- an array with no items meets none of its type's faults
abbrev pub unless_none : ℕ → List ℕ → Walked → Walked
unless_none zero d w = walked d []
unless_none (suc n) d w = w

-- n datasets of an id, with so many levels left; with none left they are nested too deep
abbrev pub nested_of : ℕ → Form → List ℕ → ℕ → ℕ → List ℕ → Walked
nested_of zero f run id n d = unless_none n d (stopped refusal.Nesting)
nested_of (suc levels) f run id n d =
    unless_none n d (through_found (look_up id run) (λ es. times n (walk_of f (nested_of levels f run) es None) d))

-- a dataset, to five levels, the outermost being level 1
abbrev pub whole_of : Form → List ℕ → ℕ → List ℕ → Walked
whole_of f run id d = through_found (look_up id run) (λ es. walk_of f (nested_of 4 f run) es None d)

-- the refusal of a conversion, if there is one: the walk's, left-over data, then the target's length
abbrev pub refusal_of : Walked → ℕ → ℕ → Result (Unit {0}) Refusal
refusal_of (stopped r) n room = Err r
refusal_of (walked left done) n room =
    first_of (refusal.DataLength when not (eqb (length left) 0) ∷ refusal.DataTarget when ltb room n ∷ [])

-- the octets converted
abbrev pub done_of : Walked → List ℕ
done_of (stopped r) = []
done_of (walked left done) = done

-- a dataset was converted into a target, or refused; octets behind what is written stay
pub record Converts
    (w : Walked) (n : ℕ) (before : List ℕ) (converted : Result ℕ Refusal) (target : List ℕ) : Type 0 where
  pub answers : converted ≡ answer (refusal_of w n (length before)) n
  pub leaves : target ≡ after (refusal_of w n (length before)) (put 0 (done_of w) before) before
