-- Which slot the records of a table have for a filter.
use Rattle.std.specs.Prelude.{ℕ, List, Bool, not, cond, Err, Result}
use Rattle.std.specs.List.{list_any, position}
use Rattle.std.specs.Option.{ok_or}
use Rattle.refusal.specs.declared.Refusal.{Refusal}
use Rattle.refusal.specs.declared.Refusal.TheVariants as refusal
use Rattle.subscription.specs.Record.{in_use, record_holds, unsound}
use Rattle.subscription.specs.declared.Filter.{Filter}
use Rattle.subscription.specs.declared.Subscription.{Subscription}

abbrev pub is_free : Subscription → Bool
is_free r = not (in_use r)

-- 11, 12, 13, or the lowest free slot
abbrev pub granting : Filter → List Subscription → Result ℕ Refusal
granting f rs =
    cond (unsound f) (Err refusal.Range)
    (cond (list_any (record_holds f) rs) (Err refusal.FilterInUse) (ok_or (position is_free rs) refusal.NoFreeSlot))
