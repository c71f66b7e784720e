-- The lines over subscriptions, each as what it asks for: a call, or what the program does itself; what that leaves.
use Rattle.std.specs.Prelude.{◌≡◌, cond, ◌&&◌, List, ℕ, ltb, leb, length, drop, get_or, set}
use Rattle.std.specs.Prelude.{Option as Maybe, Some, None}
use Rattle.std.proofs.Math.Option.{Option, none, some}
use Rattle.refusal.specs.Refusal.{number}
use Rattle.refusal.specs.declared.Refusal.TheVariants as refusal
use Rattle.topography.specs.declared.TopoCounts.{TopoCounts}
use Rattle.arrival.specs.declared.Arrival.{Arrival}
use Rattle.statistics.specs.declared.Statistics.{Statistics}
use Rattle.line.specs.Line.{verb_is, with_end, with_octets, with_number, eight}
use Rattle.answer.specs.declared.Room.{Room}
use Rattle.answer.specs.Answer.{ascii, word, refused}
use Rattle.subscription.specs.declared.Subscription.{Subscription}
use Rattle.subscription.specs.declared.Filter.{Filter}
use Rattle.subscription.specs.Record.{in_use, free_record}
use Rattle.subscription_table.specs.Table.{Call, subscribe, unsubscribe, telegram, time_check}
use Rattle.lent.specs.declared.Slots.{Slots}
use Rattle.lent.specs.Lent.{with_records}
use Rattle.scenario_pd.specs.declared.Asked.{Asked}
use Rattle.scenario_pd.specs.declared.Asked.TheVariants.{Subscribe, Unsubscribe, TimeCheck, Lend, Damage}
use Rattle.scenario_pd.specs.Effect.{Effect, saying, calling, counting, Turns}
use Rattle.scenario_pd_look.specs.Look.{look_answer}

-- behaviour 0 zero, 1 keep, 2 substitute; another digit is a bad line
abbrev pub subscribing : List ℕ → Filter → ℕ → ℕ → ℕ → Option Call
subscribing left f timeout behaviour time =
    cond (leb behaviour 2)
    (with_end left (subscribe (record { filter = f; timeout = timeout; behaviour = behaviour }) time))
    none

abbrev pub filter_in : ℕ → ℕ → ℕ → ℕ → Filter
filter_in com_id start end destination =
    record {
      com_id = eight com_id;
      senders = record { start = eight start; end = eight end };
      destination = eight destination;
    }

-- `sub COMID START END DEST TIMEOUT BEHAVIOUR NOW`
unfoldable pub sub_call : List ℕ → Option Call
sub_call s =
    with_number (drop 3 s) 8 (λ com_id left.
    with_number left 8 (λ start left.
    with_number left 8 (λ end left.
    with_number left 8 (λ destination left.
    with_number left 8 (λ timeout left.
    with_number left 1 (λ behaviour left.
    with_number left 16 (λ time left.
    subscribing left (filter_in com_id start end destination) (eight timeout) behaviour time)))))))

-- `unsub K`
unfoldable pub unsub_call : List ℕ → Option Call
unsub_call s = with_number (drop 5 s) 8 (λ k left. with_end left (unsubscribe (eight k)))

-- `check NOW`
unfoldable pub check_call : List ℕ → Option Call
check_call s = with_number (drop 5 s) 16 (λ time left. with_end left (time_check time))

abbrev pub arrival_in : TopoCounts → ℕ → ℕ → ℕ → Arrival
arrival_in counters sender destination time =
    record { sender = eight sender; destination = eight destination; time = time; local = counters }

-- `pd SENDER DEST NOW OCTETS`
unfoldable pub pd_call : TopoCounts → List ℕ → Option Call
pd_call counters s =
    with_number (drop 2 s) 8 (λ sender left.
    with_number left 8 (λ destination left.
    with_number left 16 (λ time left.
    with_octets left (λ octets. telegram (arrival_in counters sender destination time) octets))))

-- what a line asks for: a call; so many slots and octets lent to each call from now on; a slot's other stored length
pub data Wanted : Type 0 where
  calls : Call → Wanted
  lends : ℕ → ℕ → Wanted
  damages : ℕ → ℕ → Wanted

abbrev pub called : Option Call → Option Wanted
called none = none
called (some c) = some (calls c)

-- `lend SLOTS COUNT`
unfoldable pub lend_asked : List ℕ → Option Wanted
lend_asked s =
    with_number (drop 4 s) 8 (λ slots left.
    with_number left 8 (λ count left. with_end left (lends (eight slots) (eight count))))

-- `damage K LENGTH`
unfoldable pub damage_asked : List ℕ → Option Wanted
damage_asked s =
    with_number (drop 6 s) 8 (λ k left.
    with_number left 8 (λ n left. with_end left (damages (eight k) (eight n))))

-- by the verb; nothing for another
unfoldable pub asked_of : List ℕ → Option Wanted
asked_of s =
    cond (verb_is s (ascii "sub")) (called (sub_call s))
    (cond (verb_is s (ascii "unsub")) (called (unsub_call s))
    (cond (verb_is s (ascii "check")) (called (check_call s))
    (cond (verb_is s (ascii "lend")) (lend_asked s)
    (cond (verb_is s (ascii "damage")) (damage_asked s) none))))

-- the same in the program's words
abbrev pub wanted_of : Asked → Wanted
wanted_of (Subscribe f timeout behaviour time) =
    calls (subscribe (record { filter = f; timeout = timeout; behaviour = behaviour }) time)
wanted_of (Unsubscribe k) = calls (unsubscribe k)
wanted_of (TimeCheck time) = calls (time_check time)
wanted_of (Lend slots count) = lends slots count
wanted_of (Damage k n) = damages k n

abbrev pub wanted : Maybe Asked → Option Wanted
wanted None = none
wanted (Some asked) = some (wanted_of asked)

-- `ok`: each call is lent so many slots and so many octets from now on; over 40 slots, or more octets than the store
-- has (57,280), is a bad line
abbrev pub allotted : ℕ → ℕ → Slots → List ℕ → Effect
allotted slots count t store =
    cond (leb slots 40 && leb count (length store))
    (record {
      words = some (word "ok");
      slots = record { records = t.records; lent = slots; octets = count };
      store = store;
    })
    (saying none t store)

-- a record that says another stored length
abbrev pub with_length : ℕ → Subscription → Subscription
with_length n r =
    record {
      used = r.used;
      filter = r.filter;
      timing = r.timing;
      behaviour = r.behaviour;
      state = r.state;
      last = r.last;
      length = n;
    }

-- `ok`: the record of a slot in use (below 32) says this stored length; else `refused 10`
abbrev pub damaged : ℕ → ℕ → Slots → List ℕ → Effect
damaged k n t store =
    cond (ltb k 32 && in_use (get_or t.records k free_record))
    (record {
      words = some (word "ok");
      slots = with_records (set t.records k (with_length n (get_or t.records k free_record))) t;
      store = store;
    })
    (saying (some (refused (number refusal.NoSlot))) t store)

-- what is asked for, done
abbrev pub done_by : Wanted → Slots → List ℕ → Effect
done_by (calls c) t store = calling (some c) t store
done_by (lends slots count) t store = allotted slots count t store
done_by (damages k n) t store = damaged k n t store

-- .. where it is none, a bad line
abbrev pub doing : Option Wanted → Slots → List ℕ → Effect
doing none t store = saying none t store
doing (some w) t store = done_by w t store

unfoldable pub lending : List ℕ → Slots → List ℕ → Effect
lending s t store = doing (lend_asked s) t store

unfoldable pub damaging : List ℕ → Slots → List ℕ → Effect
damaging s t store = doing (damage_asked s) t store

-- by the verb, those that make no call; a bad line for another
unfoldable pub own_effect : List ℕ → Slots → List ℕ → Effect
own_effect s t store =
    cond (verb_is s (ascii "lend")) (lending s t store)
    (cond (verb_is s (ascii "damage")) (damaging s t store)
    (saying (look_answer t store s) t store))

-- .. and those whose call brings no telegram
unfoldable pub other_effect : List ℕ → Slots → List ℕ → Effect
other_effect s t store =
    cond (verb_is s (ascii "sub")) (calling (sub_call s) t store)
    (cond (verb_is s (ascii "unsub")) (calling (unsub_call s) t store)
    (cond (verb_is s (ascii "check")) (calling (check_call s) t store)
    (own_effect s t store)))

-- .. and `pd`
abbrev pub effect_of : TopoCounts → List ℕ → Slots → List ℕ → Effect
effect_of counters s t store =
    cond (verb_is s (ascii "pd")) (calling (pd_call counters s) t store) (other_effect s t store)

-- only `pd` is counted
abbrev pub statistics_of : TopoCounts → List ℕ → Slots → List ℕ → Statistics → Statistics
statistics_of counters s t store statistics =
    cond (verb_is s (ascii "pd")) (counting (pd_call counters s) t store statistics) statistics

-- a line answered: its words, the slots, the store and the statistics after it
pub record Answered (counters : TopoCounts) (s : List ℕ) (t : Slots) (store : List ℕ) (statistics : Statistics)
    (before : Room) (r : Maybe (Unit {0})) (slots : Slots) (store' : List ℕ) (statistics' : Statistics) (after : Room)
    : Type 0 where
  pub turns : Turns (effect_of counters s t store) before r slots store' after
  pub statistics-after : statistics' ≡ statistics_of counters s t store statistics
