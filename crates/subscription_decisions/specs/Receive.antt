-- What a telegram's answer counts as.
use Rattle.std.specs.Prelude.{ℕ, Bool, true, false, eqb}
use Rattle.refusal.specs.Refusal.{number}
use Rattle.refusal.specs.declared.Refusal.TheVariants as refusal
use Rattle.subscription_table.specs.Table.{Answer, granted, freed, delivered, marked, shows, refused}

-- refusal 1 counts nothing; nor does an answer that is no telegram's
abbrev pub uncounted : Answer → Bool
uncounted (granted k) = true
uncounted freed = true
uncounted (delivered n) = false
uncounted (marked n) = true
uncounted (shows state octets) = true
uncounted (refused r) = eqb (number r) (number refusal.Sizes)

-- the outcome: delivered, or the refusal's number
abbrev pub outcome_of : Answer → ℕ
outcome_of (granted k) = 0
outcome_of freed = 0
outcome_of (delivered n) = 0
outcome_of (marked n) = 0
outcome_of (shows state octets) = 0
outcome_of (refused r) = number r
