-- A telegram that passed checks 2 to 7 has a dataset of at most 1432 octets.
-- Assumes nothing.
use mathlib.Core.Path.{◌≡◌}
use mathlib.Core.List.{List, [], ◌∷◌}
use Prim.Native.Nat.{ℕ, ◌≤◌}
use Rattle.std.specs.Prelude.{Ok, Result}
use native.Mathlib.Omega.{arith}
use lib.ListN.{length, length-take}
use Rattle.refusal.specs.declared.Refusal.{Refusal}
use Rattle.refusal.specs.Refusal.{first_of}
use Rattle.refusal.proofs.Order.{passed_first}
use Rattle.telegram.specs.Telegram.{common_of, checks, dataset_of}
use Rattle.telegram.specs.declared.Family.TheVariants as family
use Rattle.telegram.proofs.Reading.{sound, whole}
use Rattle.arrival.specs.declared.Arrival.{Arrival}
use Rattle.arrival.specs.Arrival.{topography_check, arrival_checks}
use Rattle.subscription.specs.declared.Heard.{Heard}
use Rattle.subscription_table.specs.Slot.{passed, judged_by, judged, heard_of, slot_octets}

opened : (v : Result (Unit {0}) Refusal) (g h : Heard) (s dataset : List ℕ) → judged_by v g s ≡ passed h dataset
    → (v ≡ Ok tt) × (s ≡ dataset)
opened v g h s dataset e = grind arith

pub judged-fits : (a : Arrival) (d : List ℕ) (h : Heard) (dataset : List ℕ) → judged a d ≡ passed h dataset
    → length dataset ≤ slot_octets
unfolding judged slot_octets
judged-fits a d h dataset e =
    let o = opened (first_of (arrival_checks family.Pd a d)) (heard_of a d) h (dataset_of family.Pd d) dataset e in
    let s =
    sound family.Pd d (whole family.Pd d (passed_first (checks family.Pd d) (topography_check a d ∷ []) o.0)).0 in
    let n : ℕ = (common_of d).dataset_length in
    let l : length (dataset_of family.Pd d) ≤ n = simp length-take (omega arith) in
    rw (← o.1) (omega (arith, s.limit))
