-- The checks that every arriving telegram meets.
use Rattle.std.specs.Prelude.{ℕ, not, List, [], ◌∷◌, ◌++◌}
use Rattle.refusal.specs.Refusal.{Check, ◌when◌}
use Rattle.refusal.specs.declared.Refusal.TheVariants as refusal
use Rattle.topography.specs.Topography.{passes}
use Rattle.topography.specs.declared.TopoCounts.{TopoCounts}
use Rattle.telegram.specs.declared.Common.{Common}
use Rattle.telegram.specs.declared.Family.{Family}
use Rattle.telegram.specs.Telegram.{common_of, checks}
use Rattle.arrival.specs.declared.Arrival.{Arrival}

-- the two counters of a header
abbrev pub counts_of : Common → TopoCounts
counts_of c = record { etb_topo_cnt = c.etb_topo_cnt; op_trn_topo_cnt = c.op_trn_topo_cnt }

-- 7, judged on the header
abbrev pub topography_check : Arrival → List ℕ → Check
topography_check a d = refusal.Topography when not (passes (counts_of (common_of d)) a.local)

-- 2 to 7, in that order
abbrev pub arrival_checks : Family → Arrival → List ℕ → List Check
arrival_checks f a d = checks f d ++ (topography_check a d ∷ [])
