-- What the code's answers mean, and where a session is opened.
use Rattle.std.specs.Prelude.{ℕ, Bool, true, false, List, set, Ok, Err, Result}
use Rattle.std.proofs.Math.Option.{Option, none, some}
use Rattle.refusal.specs.declared.Refusal.{Refusal}
use Rattle.refusal.specs.declared.Refusal.TheVariants.{SessionInUse, NoFreeSession}
use Rattle.session_table.specs.declared.Arrived.{Arrived}
use Rattle.session_table.specs.declared.Arrived.TheVariants.{Notified, Requested, Taken}
use Rattle.session_table.specs.declared.MdRefusal.{MdRefusal}
use Rattle.session.specs.declared.Session.{Session}
use Rattle.session_table.specs.Table as table

-- document 01's answer to a call of the user's
abbrev pub told : {G : Type 0} → (G → table.Answer) → Result G Refusal → table.Answer
told f (Ok g) = f g
told f (Err r) = table.refused_plain r

-- .. and to an arriving telegram
abbrev pub arrived : Arrived → table.Answer
arrived (Notified l) = table.notified l
arrived (Requested l k) = table.requested l k
arrived (Taken status k) = table.taken status k

abbrev pub heard : Result Arrived MdRefusal → table.Answer
heard (Ok a) = arrived a
heard (Err e) = table.refused e.refusal e.status

-- where a session is opened, or why not: 17, 18
abbrev pub place_of : Bool → Option ℕ → Result ℕ Refusal
place_of true o = Err SessionInUse
place_of false none = Err NoFreeSession
place_of false (some k) = Ok k

-- the sessions in which a place was given a new record
abbrev pub placed : Result ℕ Refusal → Session → List Session → List Session
placed (Ok k) x xs = set xs k x
placed (Err r) x xs = xs

-- what an opening answers: 17, what a full table answers, or the slot
abbrev pub place_answer : (ℕ → table.Answer) → table.Answer → Result ℕ Refusal → table.Answer
place_answer given full (Ok k) = given k
place_answer given full (Err NoFreeSession) = full
place_answer given full (Err r) = table.refused_plain r
