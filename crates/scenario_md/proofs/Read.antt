-- What was read of a line asks what the line asks.
-- Assumes nothing.
use Rattle.std.proofs.Common.{◌≡◌, sym, ap, ◌∙◌}
use Rattle.std.specs.Prelude.{None, Option as Given}
use mathlib.Core.Option.{Option, none}
use Rattle.scenario_md.specs.declared.Asked.{Asked as Read}
use Rattle.scenario_md.specs.Lines.{Asked}
use Rattle.scenario_md.specs.Read.{asked_if}

-- a line of another form
pub asks_nothing : {r : Given Read} {q : Option Asked} → r ≡ None → q ≡ none → asked_if r ≡ q
asks_nothing e h = ap asked_if e ∙ sym h
