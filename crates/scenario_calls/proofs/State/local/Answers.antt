-- Two counters and the line's end, or nothing.
use Rattle.std.proofs.Common.{◌∙◌, drop, get_or}
use Rattle.line.proofs.Fields.{words_none, words_some, end_none, end_some}
use Rattle.scenario_calls.proofs.Calls.{counters_of, local_unsaid, local_set}
use Rattle.scenario_calls.proofs.State.local.Goals as goal

pub returns-in_err-etb_topo_cnt : goal.returns-in_err-etb_topo_cnt
returns-in_err-etb_topo_cnt c =
    let s = c.args.s.now in
    local_unsaid c.args.self.now s c.from_residual.ensures
    (words_none 2 (drop 5 s) counters_of (rw c.behind-fields.ensures at c.in_err-etb_topo_cnt.ensures.words))

pub returns-in_err-end : goal.returns-in_err-end
returns-in_err-end c =
    let s = c.args.s.now in
    let xs = c.in_ok-etb_topo_cnt.field-0 in
    let rest = rw c.behind-fields.ensures at c.in_ok-etb_topo_cnt.ensures.rest in
    local_unsaid c.args.self.now s c.from_residual-in_err-end.ensures
    (words_some 2 (drop 5 s) xs counters_of (rw c.behind-fields.ensures at c.in_ok-etb_topo_cnt.ensures.words)
    ∙ end_none _ _ (rw rest at c.in_err-end.ensures))

pub returns : goal.returns
returns c =
    let s = c.args.s.now in
    let xs = c.in_ok-etb_topo_cnt.field-0 in
    let rest = rw c.behind-fields.ensures at c.in_ok-etb_topo_cnt.ensures.rest in
    local_set c.args.self.now s (record { etb_topo_cnt = get_or xs 0 0; op_trn_topo_cnt = get_or xs 1 0 })
    (words_some 2 (drop 5 s) xs counters_of (rw c.behind-fields.ensures at c.in_ok-etb_topo_cnt.ensures.words)
    ∙ end_some _ _ (rw rest at c.in_ok-end.ensures))
    c.word.ensures
