-- Descriptions of datasets: their elements, and the look-up of an id in a run of numbers.
use Rattle.std.specs.Prelude.{ℕ, zero, suc, ◌*◌, List, [], ◌∷◌, Bool, false, cond, ◌||◌, Option, Some, None, Result, Ok}
use Rattle.std.specs.Prelude.{Err, eqb, ltb, leb, length, get_or, drop}
use Rattle.refusal.specs.declared.Refusal.{Refusal}
use Rattle.refusal.specs.declared.Refusal.TheVariants as refusal

-- an element of a description: a type and a count
pub record Element : Type 0 where
  pub type : ℕ
  pub count : ℕ

-- an element as the run has it: two numbers
abbrev pub element_of : List ℕ → Element
element_of ns = record { type = get_or ns 0 0; count = get_or ns 1 0 }

-- the first n elements of a run
abbrev pub elements_of : ℕ → List ℕ → List Element
elements_of zero run = []
elements_of (suc n) [] = []
elements_of (suc n) (t ∷ []) = []
elements_of (suc n) (t ∷ c ∷ run) = record { type = t; count = c } ∷ elements_of n run

-- a type 0 among elements
abbrev pub typeless : List Element → Bool
typeless [] = false
typeless (e ∷ es) = eqb e.type 0 || typeless es

-- a description at the head of a run is malformed: an id up to 16, no elements, cut, or a type 0
abbrev pub malformed : ℕ → ℕ → List ℕ → Bool
malformed id n run = leb id 16 || eqb n 0 || ltb (length run) (2 * n) || typeless (elements_of n run)

-- a description: its id, its elements, and the run behind it
pub record Description : Type 0 where
  pub id : ℕ
  pub elements : List Element
  pub rest : List ℕ

-- the description at the head of a run; none where it is cut or malformed
abbrev pub headed : List ℕ → Option Description
headed [] = None
headed (x ∷ []) = None
headed (x ∷ n ∷ run) =
    cond (malformed x n run) None (Some (record { id = x; elements = elements_of n run; rest = drop (2 * n) run }))

-- the elements of the first description of an id, or a refusal: the descriptions of a run one after the other, at most
-- m of them, through the end of the one sought
abbrev pub scan : ℕ → ℕ → List ℕ → Result (List Element) Refusal
scan zero id run = Err refusal.NotDescribed
scan (suc m) id [] = Err refusal.NotDescribed
scan (suc m) id (x ∷ []) = Err refusal.Description
scan (suc m) id (x ∷ n ∷ run) =
    cond (malformed x n run) (Err refusal.Description)
    (cond (eqb x id) (Ok (elements_of n run)) (scan m id (drop (2 * n) run)))

-- a run has at most 4,096 numbers, and no more descriptions than numbers
abbrev pub look_up : ℕ → List ℕ → Result (List Element) Refusal
look_up id run = cond (ltb 4096 (length run)) (Err refusal.Description) (scan (length run) id run)
