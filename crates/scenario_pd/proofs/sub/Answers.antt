-- Five words, the behaviour and the time, and the line's end behind them.
use mathlib.Core.Path.{refl, sym, ap, ◌∙◌}
use mathlib.Core.List.{List}
use mathlib.Core.Option.{Option}
use Prim.Native.Nat.{ℕ}
use borrow.Author.Tests.{le-leb, lt-leb}
use lib.ListN.{get_or}
use Rattle.line.specs.Line.{with_number}
use Rattle.line.proofs.Fields.{chosen, passed, number_none, end_none, end_some}
use Rattle.subscription_table.specs.Table.{Call}
use Rattle.scenario_pd.specs.Lines.{called, subscribing, sub_call}
use Rattle.scenario_pd.proofs.Fields.{unasked, number_said, words_unsaid, words_said}
use Rattle.scenario_pd.proofs.sub.Goals as goal

-- what a line says behind its words
abbrev behind : List ℕ → List ℕ → Option Call
behind w left =
    with_number left 1 (λ behaviour left.
    with_number left 16 (λ time left.
    subscribing left
    (record {
      com_id = get_or w 0 0;
      senders = record { start = get_or w 1 0; end = get_or w 2 0 };
      destination = get_or w 3 0;
    })
    (get_or w 4 0) behaviour time))

pub returns-in_err-com_id : goal.returns-in_err-com_id
unfolding sub_call
returns-in_err-com_id c =
    unasked c.from_residual.ensures
    (ap called (words_unsaid 5 behind c.behind-fields.ensures c.in_err-com_id.ensures.words))

pub returns-in_err-behaviour : goal.returns-in_err-behaviour
unfolding sub_call
returns-in_err-behaviour c =
    let w = c.in_ok-com_id.ensures in
    unasked c.from_residual-in_err-behaviour.ensures
    (ap called
    (words_said 5 behind c.behind-fields.ensures w.words w.rest ∙ number_none _ refl c.in_err-behaviour.ensures))

pub returns-in_err-time : goal.returns-in_err-time
unfolding sub_call
returns-in_err-time c =
    let w = c.in_ok-com_id.ensures in
    unasked c.from_residual-in_err-time.ensures
    (ap called
    (words_said 5 behind c.behind-fields.ensures w.words w.rest ∙ number_said _ refl c.in_ok-behaviour.ensures
    ∙ number_none _ refl c.in_err-time.ensures))

pub returns-then-behaviour-gt2 : goal.returns-then-behaviour-gt2
unfolding sub_call
returns-then-behaviour-gt2 c =
    let w = c.in_ok-com_id.ensures in
    sym
    (ap called
    (words_said 5 behind c.behind-fields.ensures w.words w.rest ∙ number_said _ refl c.in_ok-behaviour.ensures
    ∙ number_said _ refl c.in_ok-time.ensures
    ∙ passed _ _ _ (lt-leb _ 2 c.if-behaviour-gt2.true) refl))

pub returns-in_err-end : goal.returns-in_err-end
unfolding sub_call
returns-in_err-end c =
    let w = c.in_ok-com_id.ensures in
    unasked c.from_residual-in_err-end.ensures
    (ap called
    (words_said 5 behind c.behind-fields.ensures w.words w.rest ∙ number_said _ refl c.in_ok-behaviour.ensures
    ∙ number_said _ refl c.in_ok-time.ensures
    ∙ chosen _ _ _ (le-leb _ 2 c.if-behaviour-gt2.false) (end_none _ _ c.in_err-end.ensures)))

pub returns : goal.returns
unfolding sub_call
returns c =
    let w = c.in_ok-com_id.ensures in
    sym
    (ap called
    (words_said 5 behind c.behind-fields.ensures w.words w.rest ∙ number_said _ refl c.in_ok-behaviour.ensures
    ∙ number_said _ refl c.in_ok-time.ensures
    ∙ chosen _ _ _ (le-leb _ 2 c.if-behaviour-gt2.false) (end_some _ _ c.in_ok-end.ensures)))
