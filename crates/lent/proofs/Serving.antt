-- The first slots and the first octets of the store are lent: a call that follows the table's rules on them serves.
-- Assumes nothing.
use Rattle.std.proofs.Common.{◌≡◌, refl, ℕ, min, List, ◌++◌, take, drop, length, arith}
use Rattle.std.proofs.lemmas.List.{take_min}
use Rattle.std.proofs.lemmas.Grind.{common_steps}
use Rattle.subscription.specs.declared.Subscription.{Subscription}
use Rattle.subscription_table.specs.Table.{Call, Answer}
use Rattle.subscriptions.specs.Calls.{Follows}
use Rattle.lent.specs.declared.Slots.{Slots}
use Rattle.lent.specs.Lent.{with_records, Serves}

module _ {X : Type 0} where
  drop_min : (n : ℕ) (xs : List X) → drop (min n (length xs)) xs ≡ drop n xs
  drop_min n xs = grind (arith, common_steps)

pub slots-joined : (t : Slots) (rs back xs : List Subscription)
    → length t.records ≡ 40
    → back ≡ drop (min t.lent 40) t.records
    → rs ≡ xs
    → with_records (rs ++ back) t ≡ with_records (xs ++ drop t.lent t.records) t
slots-joined t rs back xs whole e h = rw (h, e, ← whole, drop_min t.lent t.records) refl

pub store-joined : (n : ℕ) (store st rest ys : List ℕ)
    → rest ≡ drop (min n (length store)) store
    → st ≡ ys
    → st ++ rest ≡ ys ++ drop n store
store-joined n store st rest ys e h = rw (h, e, drop_min n store) refl

-- a call that follows the table's rules on what is lent serves
pub serves : (c : Call) (t : Slots) (store : List ℕ) (answer : Answer) (rs : List Subscription) (st : List ℕ)
    → length t.records ≡ 40
    → Follows c (take (min t.lent 40) t.records) (take t.octets store) answer rs st
    → Serves c t store answer (with_records (rs ++ drop (min t.lent 40) t.records) t) (st ++ drop t.octets store)
serves c t store answer rs st whole f =
    let h = rw (← whole, take_min t.lent t.records) at f in
    record {
      answers = h.answers;
      slots-after = rw (← whole, drop_min t.lent t.records, h.records-after) refl;
      store-after = rw (h.store-after) refl;
    }
