-- Time: when a span has passed, and when a timeout's time is up.
use Rattle.std.specs.Prelude.{ℕ, ◌-◌, Bool, not, ◌&&◌, eqb, leb}
use Rattle.timing.specs.declared.Timing.{Timing}

-- now is not before the start, and now minus start is at least the span
abbrev pub passed : ℕ → ℕ → ℕ → Bool
passed start span now = leb start now && leb span (now - start)

-- a timeout of 0 never ends
abbrev pub time_up : Timing → ℕ → Bool
time_up t now = not (eqb t.timeout 0) && passed t.start t.timeout now
