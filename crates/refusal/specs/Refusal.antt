-- The refusals by number, and the order in which checks are met.
use Rattle.std.specs.Prelude.{ℕ, List, [], ◌∷◌, Bool, cond, Ok, Err, Result}
use Rattle.refusal.specs.declared.Refusal.{Refusal}
use Rattle.refusal.specs.declared.Refusal.TheVariants.{Sizes, Short, FrameCheck, Version, MsgType, Length, Topography, NoMatch, Stale, NoSlot, Range, FilterInUse, NoFreeSlot, NotDue, TargetShort, DatasetLong, SessionInUse, NoFreeSession, NoSession, Uri, NotDescribed, Nesting, Description, DataLength, DataTarget}

-- document 01's table of numbers
abbrev pub number : Refusal → ℕ
number Sizes = 1
number Short = 2
number FrameCheck = 3
number Version = 4
number MsgType = 5
number Length = 6
number Topography = 7
number NoMatch = 8
number Stale = 9
number NoSlot = 10
number Range = 11
number FilterInUse = 12
number NoFreeSlot = 13
number NotDue = 14
number TargetShort = 15
number DatasetLong = 16
number SessionInUse = 17
number NoFreeSession = 18
number NoSession = 19
number Uri = 20
number NotDescribed = 21
number Nesting = 22
number Description = 23
number DataLength = 24
number DataTarget = 25

-- a call's answer as one number: 0 where it grants
abbrev pub number_of : {G : Type 0} → Result G Refusal → ℕ
number_of (Ok g) = 0
number_of (Err r) = number r

infix 68 ◌when◌
-- a row of document 01's table: a refusal, and when it is given
pub data Check : Type 0 where
  ◌when◌ : Refusal → Bool → Check

-- the first check of a list that is given refuses
abbrev pub first_of : List Check → Result (Unit {0}) Refusal
first_of [] = Ok tt
first_of (r when given ∷ more) = cond given (Err r) (first_of more)

-- a call's answer: what it grants where no check is given, else the refusal
abbrev pub answer : {V G : Type 0} → Result V Refusal → G → Result G Refusal
answer (Ok v) g = Ok g
answer (Err r) g = Err r

-- what a call leaves: a refused one leaves all as it was
abbrev pub after : {V S : Type 0} → Result V Refusal → S → S → S
after (Ok v) changed before = changed
after (Err r) changed before = before
