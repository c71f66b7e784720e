-- Statistics: one for received and one for the outcome of every telegram, each modulo 2^32, PD apart from MD.
use Rattle.std.specs.Prelude.{ℕ, zero, suc, ◌+◌, ◌%◌, ◌^◌, List, [], ◌∷◌, replicate, slice_index, slice_set}
use Rattle.telegram.specs.declared.Family.{Family}
use Rattle.telegram.specs.declared.Family.TheVariants.{Pd, Md}
use Rattle.statistics.specs.declared.Counters.{Counters}
use Rattle.statistics.specs.declared.Statistics.{Statistics}

-- modulo 2^32
abbrev pub next : ℕ → ℕ
next n = (n + 1) % 2 ^ 32

-- a telegram's outcome: 0 delivered, else the refusal number
abbrev pub counted : ℕ → Counters → Counters
counted zero c = record { received = next c.received; delivered = next c.delivered; refused = c.refused }
counted (suc r) c =
    record {
      received = next c.received;
      delivered = c.delivered;
      refused = slice_set c.refused (suc r) (next (slice_index c.refused (suc r)));
    }

-- PD apart from MD
abbrev pub added : Family → ℕ → Statistics → Statistics
added Pd outcome s = record { pd = counted outcome s.pd; md = s.md }
added Md outcome s = record { pd = s.pd; md = counted outcome s.md }

-- nothing counted
abbrev pub none_counted : Counters
none_counted = record { received = 0; delivered = 0; refused = replicate 40 0 }

abbrev pub no_statistics : Statistics
no_statistics = record { pd = none_counted; md = none_counted }

-- a telegram that arrived, and its outcome
pub record Arrived : Type 0 where
  pub family : Family
  pub outcome : ℕ

-- the statistics after a history of telegrams, the first of the list the first to arrive
abbrev pub after_all : List Arrived → Statistics → Statistics
after_all [] s = s
after_all (a ∷ more) s = after_all more (added a.family a.outcome s)
