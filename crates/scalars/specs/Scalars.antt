-- Scalar types, and scalars turned round.
use Rattle.std.specs.Prelude.{ℕ, zero, suc, ◌+◌, List, [], ◌∷◌, ◌++◌, reverse, get_or}
use Rattle.octets.specs.Octets.{part}
use Rattle.scalars.specs.declared.Shape.{Shape}
use Rattle.scalars.specs.declared.Shape.TheVariants.{Empty, One, Two, Four, Eight, FourTwo, FourFour}

-- the octets of the types 1 to 16, in the parts that are turned round each by itself
abbrev pub scalar_types : List (List ℕ)
scalar_types =
    []
    ∷ (1 ∷ [])  -- 1 BOOL8
    ∷ (1 ∷ [])  -- 2 CHAR8
    ∷ (2 ∷ [])  -- 3 UTF16
    ∷ (1 ∷ [])  -- 4 INT8
    ∷ (2 ∷ [])  -- 5 INT16
    ∷ (4 ∷ [])  -- 6 INT32
    ∷ (8 ∷ [])  -- 7 INT64
    ∷ (1 ∷ [])  -- 8 UINT8
    ∷ (2 ∷ [])  -- 9 UINT16
    ∷ (4 ∷ [])  -- 10 UINT32
    ∷ (8 ∷ [])  -- 11 UINT64
    ∷ (4 ∷ [])  -- 12 REAL32
    ∷ (8 ∷ [])  -- 13 REAL64
    ∷ (4 ∷ [])  -- 14 TIMEDATE32
    ∷ (4 ∷ 2 ∷ [])  -- 15 TIMEDATE48
    ∷ (4 ∷ 4 ∷ [])  -- 16 TIMEDATE64
    ∷ []

-- the parts of a scalar type
abbrev pub parts_of : ℕ → List ℕ
parts_of t = get_or scalar_types t []

-- how many octets parts have
abbrev pub size : List ℕ → ℕ
size [] = 0
size (k ∷ ks) = k + size ks

-- the parts in which scalars of a shape are turned round
abbrev pub parts : Shape → List ℕ
parts Empty = []
parts One = 1 ∷ []
parts Two = 2 ∷ []
parts Four = 4 ∷ []
parts Eight = 8 ∷ []
parts FourTwo = 4 ∷ 2 ∷ []
parts FourFour = 4 ∷ 4 ∷ []

-- the parts in which scalars are turned round, by number
abbrev pub shapes : List (List ℕ)
shapes = [] ∷ (1 ∷ []) ∷ (2 ∷ []) ∷ (4 ∷ []) ∷ (8 ∷ []) ∷ (4 ∷ 2 ∷ []) ∷ (4 ∷ 4 ∷ []) ∷ []

abbrev pub shape_parts : ℕ → List ℕ
shape_parts k = get_or shapes k []

-- a scalar of such parts at p, each part turned round
abbrev pub turned_at : List ℕ → ℕ → List ℕ → List ℕ
turned_at [] p s = []
turned_at (k ∷ ks) p s = reverse (part k p s) ++ turned_at ks (p + k) s

-- n scalars one behind the other from p on
abbrev pub array_at : ℕ → List ℕ → ℕ → List ℕ → List ℕ
array_at zero ks p s = []
array_at (suc n) ks p s = turned_at ks p s ++ array_at n ks (p + size ks) s
