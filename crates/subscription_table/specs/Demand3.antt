-- Demand 3, as two statements over every list of calls from an empty table of any number of slots and a store of any
-- size.
use Rattle.std.specs.Prelude.{◌≡◌, ℕ, List}
use Rattle.tables.specs.Trace.{trace, run}
use Rattle.tables.specs.Watch.{watched, told, watched_alone}
use Rattle.subscription_table.specs.Slot.{Request, slot_octets}
use Rattle.subscription_table.specs.Table.{Call, subscribe, granted, step, empty_table}
use Rattle.subscription_table.specs.Alone.{side_by_side}
use Rattle.subscription_table.specs.Watched.{slot_at, slot_watch}

-- the answers, and the records and the store after each call, are those of slots alone, side by side
abbrev pub SideBySide : Type 0
SideBySide =
    (n octets : ℕ) (calls : List Call) → trace step (λ t. t) calls (empty_table n octets) ≡ side_by_side n octets calls

-- from its grant through the call that frees it, a slot's record, octets and answers are those of the slot alone
abbrev pub OneSlot : Type 0
OneSlot =
    (n octets : ℕ) (before after : List Call) (q : Request) (time k : ℕ)
    → let w = slot_watch k q.filter in
    let grant = step (subscribe q time) (run step before (empty_table n octets)) in
    let alone = (step (subscribe q time) (empty_table 1 slot_octets)).after in
    grant.answer ≡ granted k
    → (slot_at k grant.after ≡ alone) × (watched w after grant.after ≡ watched_alone w (told w after grant.after) alone)
