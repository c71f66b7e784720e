-- Two numbers, the time and the telegram's octets.
use mathlib.Core.Path.{◌∙◌}
use mathlib.Core.List.{List}
use mathlib.Core.Option.{Option}
use Prim.Native.Nat.{ℕ}
use lib.ListN.{get_or}
use Rattle.topography.specs.declared.TopoCounts.{TopoCounts}
use Rattle.session_table.specs.Table.{telegram}
use Rattle.line.specs.Line.{with_number, with_octets}
use Rattle.line.proofs.Fields.{words_none, words_some, number_none, number_some, read_value, last_none, last_some}
use Rattle.scenario_md.specs.Lines.{Asked, calls, md_asked}
use Rattle.scenario_md.proofs.Served.{answers_as, idle}
use Rattle.scenario_md.proofs.md.Goals as goal

-- what stands behind the numbers
abbrev rest : TopoCounts → List ℕ → List ℕ → Option Asked
rest local v s =
    with_number s 16 (λ time left.
    with_octets left (λ d.
    calls (telegram (record { sender = get_or v 0 0; destination = get_or v 1 0; time = time; local = local }) d)))

pub returns-in_err-sender : goal.returns-in_err-sender
unfolding md_asked
returns-in_err-sender c =
    idle c.from_residual.ensures
    (words_none 2 _ (rest c.args.local) (rw c.behind-fields.ensures at c.in_err-sender.ensures.words))

pub returns-in_err-time : goal.returns-in_err-time
unfolding md_asked
returns-in_err-time c =
    idle c.from_residual-in_err-time.ensures
    (words_some 2 _ _ (rest c.args.local) (rw c.behind-fields.ensures at c.in_ok-sender.ensures.words)
    ∙ number_none _ (rw c.behind-fields.ensures at c.in_ok-sender.ensures.rest) c.in_err-time.ensures)

pub returns-in_err-n : goal.returns-in_err-n
unfolding md_asked
returns-in_err-n c =
    idle c.from_residual-in_err-n.ensures
    (words_some 2 _ _ (rest c.args.local) (rw c.behind-fields.ensures at c.in_ok-sender.ensures.words)
    ∙ number_some _ (rw c.behind-fields.ensures at c.in_ok-sender.ensures.rest) c.in_ok-time.ensures
    ∙ last_none _ _ c.buffer-data.result c.buffer-data.ensures.value c.in_err-n.ensures.value)

pub returns : goal.returns
unfolding md_asked
returns c =
    answers_as (rw (read_value c.in_ok-time.ensures) at c.receive.ensures)
    (words_some 2 _ _ (rest c.args.local) (rw c.behind-fields.ensures at c.in_ok-sender.ensures.words)
    ∙ number_some _ (rw c.behind-fields.ensures at c.in_ok-sender.ensures.rest) c.in_ok-time.ensures
    ∙ last_some _ _ c.in_ok-n.n c.buffer-data.result c.last.new.target c.buffer-data.ensures.value
    c.in_ok-n.ensures.value c.in_ok-n.ensures.target_after)
