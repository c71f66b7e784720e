-- The listing: slot 0, and what becomes of a line after line 1.
use Rattle.std.specs.Prelude.{◌≡◌, ℕ, ◌+◌, ◌%◌, ◌^◌, List, [], ◌∷◌, ◌++◌, Option, Some, None}
use Rattle.answer.specs.Answer.{ascii, decimal_of, decimal, word, refused as refused_words}
use Rattle.refusal.specs.Refusal.{number}
use Rattle.topography.specs.declared.TopoCounts.{TopoCounts}
use Rattle.arrival.specs.declared.Arrival.{Arrival}
use Rattle.capture.specs.declared.Frame.{Frame}
use Rattle.subscription.specs.declared.Subscription.{Subscription}
use Rattle.subscription.specs.Record.{granted_record}
use Rattle.subscription_table.specs.Table.{Table, Answer, granted, freed, delivered, marked, shows, refused, telegram, step}
use Rattle.subscriptions.specs.Receive.{recorded}
use Rattle.listing.specs.declared.Totals.{Totals}
use Rattle.listing.specs.declared.Listing.{Listing}
use Rattle.listing.specs.declared.Outcome.{Outcome}
use Rattle.listing.specs.declared.Outcome.TheVariants.{Delivered, Refused, BadLine}

-- slot 0 is ComId 1000 (decimal), any sender, any destination, no timeout, keep
abbrev pub slot_zero : Subscription
slot_zero = granted_record (record { com_id = 1000; senders = record { start = 0; end = 0 }; destination = 0 }) 0 1 0

-- a telegram taken is delivered, any other is refused with its number
abbrev pub outcome_of : Answer → Outcome
outcome_of (granted k) = Delivered
outcome_of freed = Delivered
outcome_of (delivered n) = Delivered
outcome_of (marked n) = Delivered
outcome_of (shows state octets) = Delivered
outcome_of (refused r) = Refused (number r)

-- a bad line is not totalled
abbrev pub counted : Outcome → Totals → Totals
counted Delivered t = record { delivered = (t.delivered + 1) % 2 ^ 64; refused = t.refused }
counted (Refused r) t = record { delivered = t.delivered; refused = (t.refused + 1) % 2 ^ 64 }
counted BadLine t = t

abbrev pub arrival_of : TopoCounts → Frame → Arrival
arrival_of local f = record { sender = f.sender; destination = f.destination; time = f.time; local = local }

-- a table of slot 0 alone
abbrev pub only : Listing → List ℕ → Table
only l store = record { records = l.slot ∷ []; store = store }

-- a frame goes to slot 0 by the table's rules
pub record Hands (l : Listing) (f : Frame) (datagram store : List ℕ) (o : Outcome) (l' : Listing) (store' : List ℕ) : Type 0 where
  pub outcome : o ≡ outcome_of (step (telegram (arrival_of l.local f) datagram) (only l store)).answer
  pub slot : (l'.slot ∷ []) ≡ (step (telegram (arrival_of l.local f) datagram) (only l store)).after.records
  pub store-after : store' ≡ (step (telegram (arrival_of l.local f) datagram) (only l store)).after.store
  pub statistics : l'.statistics ≡ recorded (step (telegram (arrival_of l.local f) datagram) (only l store)).answer l.statistics
  pub totals : l'.totals ≡ counted o l.totals
  pub local : l'.local ≡ l.local

-- a bad line changes nothing
pub record Keeps (l : Listing) (store : List ℕ) (o : Outcome) (l' : Listing) (store' : List ℕ) : Type 0 where
  pub outcome : o ≡ BadLine
  pub listing : l' ≡ l
  pub store-after : store' ≡ store

abbrev pub Lists : Listing → Option Frame → List ℕ → List ℕ → Outcome → Listing → List ℕ → Type 0
Lists l (Some f) datagram store o l' store' = Hands l f datagram store o l' store'
Lists l None datagram store o l' store' = Keeps l store o l' store'

-- what became of a line, in words, and the line's end
abbrev pub outcome_words : Outcome → List (List ℕ)
outcome_words Delivered = ascii " delivered 1\n" ∷ []
outcome_words (Refused r) = refused_words r ++ (ascii "\n" ∷ [])
outcome_words BadLine = ascii " bad line\n" ∷ []

-- the line that answers line n: its number, and what became of it
abbrev pub outcome_line : ℕ → Outcome → List (List ℕ)
outcome_line n o = decimal_of n ∷ outcome_words o

-- `total T delivered D refused R`
abbrev pub total_line : Totals → List (List ℕ)
total_line t =
    (ascii "total" ∷ []) ++ decimal ((t.delivered + t.refused) % 2 ^ 64) ++ word "delivered" ++ decimal t.delivered ++ word "refused" ++ decimal t.refused ++ (ascii "\n" ∷ [])
