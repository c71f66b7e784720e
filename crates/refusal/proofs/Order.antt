-- Checks met in order: where none refuses every check passes, and two lists of checks one behind the other.
-- Assumes nothing.
-- no check of a list is given
use Rattle.std.proofs.Common.{◌≡◌, refl, List, [], ◌∷◌, ◌++◌, true, false, arith}
use Rattle.std.specs.Prelude.{Ok, Err, Result}
use Rattle.refusal.specs.declared.Refusal.{Refusal}
use Rattle.refusal.specs.Refusal.{Check, ◌when◌, first_of}

abbrev pub Passed : List Check → Type 0
Passed [] = Unit {0}
Passed (r when given ∷ more) = (given ≡ false) × Passed more

pub passed : (cs : List Check) → first_of cs ≡ Ok tt → Passed cs
passed [] e = tt
passed (r when true ∷ cs) e = grind arith
passed (r when false ∷ cs) e = (refl, passed cs e)

pub passes : (cs : List Check) → Passed cs → first_of cs ≡ Ok tt
passes [] p = refl
passes (r when given ∷ cs) p = rw p.0 (passes cs p.1)

-- the first judgement, or the second where the first passes
abbrev pub and_then : Result (Unit {0}) Refusal → Result (Unit {0}) Refusal → Result (Unit {0}) Refusal
and_then (Ok v) b = b
and_then (Err r) b = Err r

pub first_of-append : (cs ds : List Check) → first_of (cs ++ ds) ≡ and_then (first_of cs) (first_of ds)
first_of-append [] ds = refl
first_of-append (r when true ∷ cs) ds = refl
first_of-append (r when false ∷ cs) ds = first_of-append cs ds

-- where two lists of checks one behind the other pass, the first passes
pub passed_first : (cs ds : List Check) → first_of (cs ++ ds) ≡ Ok tt → first_of cs ≡ Ok tt
passed_first [] ds e = refl
passed_first (r when true ∷ cs) ds e = grind arith
passed_first (r when false ∷ cs) ds e = passed_first cs ds e
