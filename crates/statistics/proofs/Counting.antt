-- What one telegram adds, by whether it was refused.
-- Assumes nothing.
use Rattle.std.proofs.Common.{◌≡◌, ℕ, zero, suc, get_or, set, refl}
use Rattle.statistics.specs.declared.Counters.{Counters}
use Rattle.statistics.specs.Statistics.{next, counted}

pub refused-counted : (n : ℕ) (c : Counters) → (n ≡ 0 → ⊥)
    → counted n c ≡ record { received = next c.received; delivered = c.delivered; refused = set c.refused n (next (get_or c.refused n 0)) }
refused-counted zero c h = absurd (h refl)
refused-counted (suc r) c h = refl
