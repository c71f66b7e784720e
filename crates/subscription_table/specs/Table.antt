-- The table of subscriptions and its store, and what each call answers and leaves. Document 01, Subscriptions and
-- Numbers.
use Rattle.subscription.specs.Record.{in_use, equal, unsound, state_of}
use Rattle.arrival.specs.declared.Arrival.{Arrival}
use Rattle.std.specs.Prelude.{ℕ, zero, suc, ◌*◌, Bool, true, false, cond, not, ◌&&◌, List, [], ◌∷◌, ◌++◌, map, leb, eqb}
use Rattle.std.specs.Prelude.{length, take, drop, set, replicate}
use Rattle.std.proofs.Math.Option.{Option, none, some}
use Rattle.refusal.specs.declared.Refusal.{Refusal}
use Rattle.refusal.specs.declared.Refusal.TheVariants as refusal
use Rattle.tables.specs.Trace.{Outcome}
use Rattle.tables.specs.Lists.{count, any, lowest, grant, at_slot}
use Rattle.subscription_table.specs.Slot.{Judged, refusal, passed, judged, Request, Cell, slot_octets, free_cell}
use Rattle.subscription_table.specs.Slot.{granted_cell, wants, takes, deliver, due, mark, shown, overlong}
use Rattle.subscription.specs.declared.State.{State}
use Rattle.subscription.specs.declared.Subscription.{Subscription}

pub data Call : Type 0 where
  subscribe : Request → ℕ → Call
  unsubscribe : ℕ → Call
  telegram : Arrival → List ℕ → Call
  time_check : ℕ → Call
  read : ℕ → List ℕ → Call

pub data Answer : Type 0 where
  granted : ℕ → Answer
  freed : Answer
  delivered : ℕ → Answer
  marked : ℕ → Answer
  shows : State → List ℕ → Answer
  refused : Refusal → Answer

-- 11, 12
abbrev pub early : Bool → Bool → Option Answer
early true same = some (refused refusal.Range)
early false true = some (refused refusal.FilterInUse)
early false false = none

-- 8: none matches; 9: some match, none finds it fresh
abbrev pub delivered_to : Bool → ℕ → Answer
delivered_to true zero = refused refusal.Stale
delivered_to false zero = refused refusal.NoMatch
delivered_to b (suc n) = delivered (suc n)

-- ---- the calls, over the slots

abbrev pub unsubscribed : Cell → Outcome Answer Cell
unsubscribed x =
    cond (in_use x.slot) (record { answer = freed; after = free_cell })
    (record { answer = refused refusal.NoSlot; after = x })

abbrev pub reading : List ℕ → Cell → Answer
reading set x =
    cond (in_use x.slot)
    (cond (overlong x) (refused refusal.Sizes) (shows (state_of x.slot.state) (shown set x)))
    (refused refusal.NoSlot)

abbrev pub arriving : Judged → List Cell → Outcome Answer (List Cell)
arriving (refusal r) xs = record { answer = refused r; after = xs }
arriving (passed h dataset) xs =
    record { answer = delivered_to (any (wants h) xs) (count (takes h) xs); after = map (deliver h dataset) xs }

abbrev pub holds : Request → Cell → Bool
holds q x = in_use x.slot && equal q.filter x.slot.filter

unfoldable pub slots : Call → List Cell → Outcome Answer (List Cell)
slots (subscribe q time) xs =
    grant (early (unsound q.filter) (any (holds q) xs)) (lowest (λ x. not (in_use x.slot)) xs)
    (refused refusal.NoFreeSlot) granted (granted_cell q time) xs
slots (unsubscribe k) xs = at_slot free_cell unsubscribed k xs
slots (telegram a d) xs = arriving (judged a d) xs
slots (time_check time) xs = record { answer = marked (count (due time) xs); after = map (mark time) xs }
slots (read k set) xs = at_slot free_cell (λ x. record { answer = reading set x; after = x }) k xs

-- ---- the table as it is lent: a run of records, and the store

pub record Table : Type 0 where
  pub records : List Subscription
  pub store : List ℕ

-- slot k owns store octets 1432k to 1432k+1431
unfoldable pub parts : List Subscription → List ℕ → List Cell
parts [] store = []
parts (r ∷ rs) store = record { slot = r; octets = take slot_octets store } ∷ parts rs (drop slot_octets store)

abbrev pub records : List Cell → List Subscription
records [] = []
records (x ∷ xs) = x.slot ∷ records xs

abbrev pub store : List Cell → List ℕ
store [] = []
store (x ∷ xs) = x.octets ++ store xs

abbrev pub lent : List Cell → Table
lent xs = record { records = records xs; store = store xs }

-- 1: more than 32 slots, or store not 1432 octets a slot
unfoldable pub fits : ℕ → ℕ → Bool
fits slots octets = leb slots 32 && eqb octets (slots * slot_octets)

abbrev pub lent_after : Outcome Answer (List Cell) → Outcome Answer Table
lent_after o = record { answer = o.answer; after = lent o.after }

-- what a call answers, and the records and the store after it
unfoldable pub step : Call → Table → Outcome Answer Table
step c t =
    cond (fits (length t.records) (length t.store))
    (lent_after (slots c (parts t.records t.store)))
    (record { answer = refused refusal.Sizes; after = t })

-- slots start free, the store zero
abbrev pub empty_table : ℕ → ℕ → Table
empty_table n octets = record { records = replicate n free_cell.slot; store = replicate octets 0 }
