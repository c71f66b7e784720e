-- The outcome of what the code answers is that of document 01's answer, for telegrams and for the user's calls.
-- Assumes nothing.
use mathlib.Core.Path.{◌≡◌, refl}
use lib.IntN.{pos}
use Rattle.std.specs.Prelude.{Ok, Err, Result}
use Rattle.refusal.specs.declared.Refusal.{Refusal}
use Rattle.session_table.specs.declared.Arrived.{Arrived}
use Rattle.session_table.specs.declared.Arrived.TheVariants.{Notified, Requested, Taken}
use Rattle.session_table.specs.declared.MdRefusal.{MdRefusal}
use Rattle.session_table.specs.Table.{Answer}
use Rattle.session_table.specs.Calls.{heard, told}
use Rattle.messages.specs.Arriving.{outcome_of, outcome_in}

-- a telegram
pub outcome-heard : (r : Result Arrived MdRefusal) → outcome_in r ≡ outcome_of (heard r)
outcome-heard (Ok (Notified l)) = refl
outcome-heard (Ok (Requested l k)) = refl
outcome-heard (Ok (Taken status k)) = refl
outcome-heard (Err e) = refl

-- a call of the user's
abbrev plain : {T : Type 0} → Result T Refusal → Result T MdRefusal
plain (Ok x) = Ok x
plain (Err r) = Err (record { refusal = r; status = pos 0 })

pub outcome-told : {T : Type 0} (says : T → Answer) (r : Result T Refusal) → ((x : T) → outcome_of (says x) ≡ 0)
    → outcome_of (told says r) ≡ outcome_in (plain r)
outcome-told says (Ok x) g = g x
outcome-told says (Err r) g = refl
