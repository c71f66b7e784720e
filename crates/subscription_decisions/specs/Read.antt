-- What reading a slot shows of its record, and of its part of the store.
use Rattle.std.specs.Prelude.{ℕ, ◌*◌, List, [], Bool, cond, ltb, Ok, Err, Result}
use Rattle.octets.specs.Octets.{part}
use Rattle.refusal.specs.declared.Refusal.{Refusal}
use Rattle.refusal.specs.declared.Refusal.TheVariants as refusal
use Rattle.subscription.specs.Record.{in_use, state_of, substitutes}
use Rattle.subscription_table.specs.Slot.{slot_octets}
use Rattle.subscription_table.specs.Table as table
use Rattle.subscription.specs.declared.Subscription.{Subscription}
use Rattle.subscription_decisions.specs.declared.View.{View}

-- what a record in use shows
abbrev pub view_of : Subscription → View
view_of r = record { state = state_of r.state; substitute = substitutes r; length = r.length }

-- 1 where sizes are wrong or the record says over 1432, 10 where it is free
abbrev pub read_by : Bool → Subscription → Result View Refusal
read_by fit r =
    cond fit
    (cond (in_use r) (cond (ltb slot_octets r.length) (Err refusal.Sizes) (Ok (view_of r))) (Err refusal.NoSlot))
    (Err refusal.Sizes)

-- document 01's answer: the substitute set whole, or the first octets of slot k's part
abbrev pub shown : ℕ → List ℕ → List ℕ → Result View Refusal → table.Answer
shown k set store (Ok v) = table.shows v.state (cond v.substitute set (part v.length (k * slot_octets) store))
shown k set store (Err r) = table.refused r

-- the octets that an answer shows; none where it shows nothing
abbrev pub octets_of : table.Answer → List ℕ
octets_of (table.granted k) = []
octets_of table.freed = []
octets_of (table.delivered n) = []
octets_of (table.marked n) = []
octets_of (table.shows state octets) = octets
octets_of (table.refused r) = []
