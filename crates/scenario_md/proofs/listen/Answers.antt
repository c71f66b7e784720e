-- Three numbers, the URI and the line's end.
use mathlib.Core.Path.{sym, ◌∙◌}
use mathlib.Core.List.{List}
use mathlib.Core.Option.{Option}
use Prim.Native.Nat.{ℕ}
use lib.ListN.{get_or}
use Rattle.session_table.specs.Table.{listen}
use Rattle.line.specs.Line.{with_field, with_end}
use Rattle.line.proofs.Fields.{words_none, words_some, octets_none, octets_some, end_none, end_some}
use Rattle.scenario_md.specs.Lines.{Asked, calls, listen_asked}
use Rattle.scenario_md.proofs.Read.{asks_nothing}
use Rattle.scenario_md.proofs.listen.Goals as goal

-- what stands behind the numbers
abbrev rest : List ℕ → List ℕ → Option Asked
rest v s =
    with_field s 32 (λ uri left.
    with_end left (calls (listen (get_or v 0 0) (record { start = get_or v 1 0; end = get_or v 2 0 }) uri)))

pub returns-in_err-com_id : goal.returns-in_err-com_id
unfolding listen_asked
returns-in_err-com_id c =
    asks_nothing c.from_residual.ensures
    (words_none 3 _ rest (rw c.behind-fields.ensures at c.in_err-com_id.ensures.words))

pub returns-in_err-uri : goal.returns-in_err-uri
unfolding listen_asked
returns-in_err-uri c =
    asks_nothing c.from_residual-in_err-uri.ensures
    (words_some 3 _ _ rest (rw c.behind-fields.ensures at c.in_ok-com_id.ensures.words)
    ∙ octets_none 32 _ (rw c.behind-fields.ensures at c.in_ok-com_id.ensures.rest) c.in_err-uri.ensures)

pub returns-in_err-end : goal.returns-in_err-end
unfolding listen_asked
returns-in_err-end c =
    asks_nothing c.from_residual-in_err-end.ensures
    (words_some 3 _ _ rest (rw c.behind-fields.ensures at c.in_ok-com_id.ensures.words)
    ∙ octets_some 32 _ (rw c.behind-fields.ensures at c.in_ok-com_id.ensures.rest) c.in_ok-uri.ensures
    ∙ end_none _ _ c.in_err-end.ensures)

pub returns : goal.returns
unfolding listen_asked
returns c =
    sym
    (words_some 3 _ _ rest (rw c.behind-fields.ensures at c.in_ok-com_id.ensures.words)
    ∙ octets_some 32 _ (rw c.behind-fields.ensures at c.in_ok-com_id.ensures.rest) c.in_ok-uri.ensures
    ∙ end_some _ _ c.in_ok-end.ensures)
