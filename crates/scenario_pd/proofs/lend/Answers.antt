-- Two words, and the line's end behind them.
use mathlib.Core.Path.{sym, ◌∙◌}
use mathlib.Core.List.{List}
use mathlib.Core.Option.{Option}
use Prim.Native.Nat.{ℕ}
use lib.ListN.{get_or}
use Rattle.line.specs.Line.{with_end}
use Rattle.line.proofs.Fields.{end_none, end_some}
use Rattle.scenario_pd.specs.Lines.{Wanted, lends, lend_asked}
use Rattle.scenario_pd.proofs.Fields.{unasked, words_unsaid, words_said}
use Rattle.scenario_pd.proofs.lend.Goals as goal

-- what a line says behind its words
abbrev behind : List ℕ → List ℕ → Option Wanted
behind w left = with_end left (lends (get_or w 0 0) (get_or w 1 0))

pub returns-in_err-slots : goal.returns-in_err-slots
unfolding lend_asked
returns-in_err-slots c =
    unasked c.from_residual.ensures (words_unsaid 2 behind c.behind-fields.ensures c.in_err-slots.ensures.words)

pub returns-in_err-end : goal.returns-in_err-end
unfolding lend_asked
returns-in_err-end c =
    let w = c.in_ok-slots.ensures in
    unasked c.from_residual-in_err-end.ensures
    (words_said 2 behind c.behind-fields.ensures w.words w.rest ∙ end_none _ _ c.in_err-end.ensures)

pub returns : goal.returns
unfolding lend_asked
returns c =
    let w = c.in_ok-slots.ensures in
    sym (words_said 2 behind c.behind-fields.ensures w.words w.rest ∙ end_some _ _ c.in_ok-end.ensures)
