-- One subscription's record. Document 01, Subscriptions.
use Rattle.std.specs.Prelude.{ℕ, zero, suc, ◌+◌, ◌-◌, ◌%◌, ◌^◌, Bool, not, ◌&&◌, ◌||◌, ◌==◌, nat_le, nat_lt}
use Rattle.address.specs.SenderRange.{reversed, admits, same}
use Rattle.timing.specs.Timing.{time_up}
use Rattle.subscription.specs.declared.Filter.{Filter}
use Rattle.subscription.specs.declared.LastTaken.{LastTaken}
use Rattle.subscription.specs.declared.Subscription.{Subscription}
use Rattle.subscription.specs.declared.Heard.{Heard}
use Rattle.subscription.specs.declared.State.{State}
use Rattle.subscription.specs.declared.State.TheVariants.{NeverReceived, Valid, TimedOut}

-- a filter has a ComId, a sender range and a destination (0: any)
unfoldable pub matches : Filter → Heard → Bool
matches f h =
    (f.com_id == h.com_id)
    && admits f.senders h.sender
    && (f.destination == 0 || f.destination == h.destination)

-- 11: range end not 0 and below its start
unfoldable pub unsound : Filter → Bool
unsound f = reversed f.senders

-- 12: equal in every field
unfoldable pub equal : Filter → Filter → Bool
equal f g = f.com_id == g.com_id && same f.senders g.senders && f.destination == g.destination

-- nothing taken since subscribing or since a timeout
abbrev pub forgotten : LastTaken
forgotten = record { held = 0; sender = 0; counter = 0 }

-- a timeout forgets
abbrev pub forget : LastTaken → LastTaken
forget l = forgotten

-- the sender and the counter are taken
abbrev pub remembered : Heard → LastTaken
remembered h = record { held = 1; sender = h.sender; counter = h.counter }

-- something was taken: any number but 0
abbrev pub remembers : LastTaken → Bool
remembers l = not (l.held == 0)

-- a counter minus the last one, modulo 2^32
abbrev pub ahead : ℕ → ℕ → ℕ
ahead last counter = (counter + 2 ^ 32 - last) % 2 ^ 32

-- fresh if nothing was taken, if the sender is another, or if the counter is 1 to 2^31 - 1 ahead
unfoldable pub fresh : LastTaken → Heard → Bool
fresh l h =
    not (remembers l)
    || not (l.sender == h.sender)
    || (nat_le 1 (ahead l.counter h.counter) && nat_le (ahead l.counter h.counter) (2 ^ 31 - 1))

-- a free record is one fixed value
abbrev pub free_record : Subscription
free_record =
    record {
      used = 0;
      filter = record { com_id = 0; senders = record { start = 0; end = 0 }; destination = 0 };
      timing = record { start = 0; timeout = 0 };
      behaviour = 0;
      state = 0;
      last = forgotten;
      length = 0;
    }

-- granted: nothing received, supervision started
abbrev pub granted_record : Filter → ℕ → ℕ → ℕ → Subscription
granted_record f timeout behaviour time =
    record {
      used = 1;
      filter = f;
      timing = record { start = time; timeout = timeout };
      behaviour = behaviour;
      state = 0;
      last = forgotten;
      length = 0;
    }

-- in use: any number but 0
abbrev pub in_use : Subscription → Bool
in_use r = not (r.used == 0)

-- a slot in use with an equal filter
abbrev pub record_holds : Filter → Subscription → Bool
record_holds f r = in_use r && equal f r.filter

-- a slot in use whose filter matches
abbrev pub record_wants : Heard → Subscription → Bool
record_wants h r = in_use r && matches r.filter h

-- a slot that takes: it is fresh there
abbrev pub record_takes : Heard → Subscription → Bool
record_takes h r = record_wants h r && fresh r.last h

-- takes sender, counter, time and length n, becomes valid
abbrev pub record_taken : Heard → ℕ → Subscription → Subscription
record_taken h n r =
    record {
      used = r.used;
      filter = r.filter;
      timing = record { start = h.time; timeout = r.timing.timeout };
      behaviour = r.behaviour;
      state = 1;
      last = remembered h;
      length = n;
    }

-- what reading answers: 0 never received, 1 valid, any other timed out
abbrev pub state_of : ℕ → State
state_of zero = NeverReceived
state_of (suc zero) = Valid
state_of (suc (suc n)) = TimedOut

-- in use, with a timeout, not yet marked, and the time is up
abbrev pub record_due : ℕ → Subscription → Bool
record_due time r = in_use r && (not (nat_lt 1 r.state) && time_up r.timing time)

-- marking forgets the counter; stored length and start stay
abbrev pub record_marked : Subscription → Subscription
record_marked r =
    record {
      used = r.used;
      filter = r.filter;
      timing = r.timing;
      behaviour = r.behaviour;
      state = 2;
      last = forget r.last;
      length = r.length;
    }

-- behaviour zero
abbrev pub zeroes : Subscription → Bool
zeroes r = r.behaviour == 0

-- not valid, and behaviour substitute (any number but 0 and 1)
abbrev pub substitutes : Subscription → Bool
substitutes r = not (r.state == 1) && nat_lt 1 r.behaviour
