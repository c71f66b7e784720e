-- The listeners decide, and the one that was added is written.
use mathlib.Core.Path.{sym, ◌∙◌}
use mathlib.Core.Bool.{not}
use Rattle.std.proofs.lemmas.Result.{err_from_is_err_and}
use Rattle.refusal.specs.declared.Refusal.TheVariants.{NoFreeSlot}
use Rattle.refusal.specs.Refusal.{first_of}
use Rattle.tables.specs.Lists.{lowest}
use Rattle.session.specs.declared.Listener.{Listener}
use Rattle.session_table.specs.Table.{listen_checks}
use Rattle.packed.specs.Packed.{tables_of}
use Rattle.sessions.proofs.Listening.{listen-refused, listen-full, listen-done, judged}
use Rattle.session_table.proofs.Searches.{refused-none, granted-some}
use Rattle.sessions.proofs.listen.Goals as goal

pub returns-in_err-judge_listener : goal.returns-in_err-judge_listener
returns-in_err-judge_listener c =
    let a = c.args in
    let p = err_from_is_err_and c.from_residual.result c.from_residual.ensures.1 in
    rw (p.1, p.2)
    (listen-refused a.com_id a.senders a.uri a.octets.now c.in_err-judge_listener.field-0.0
    (judged c.new-l.result
    (λ (l : Listener). first_of (listen_checks l.com_id l.senders l.uri (tables_of a.octets.now).listeners))
    c.new-l.ensures (sym c.judge_listener.ensures ∙ c.in_err-judge_listener.was)))

pub returns-in_err-k : goal.returns-in_err-k
returns-in_err-k c =
    let a = c.args in
    let o = lowest (λ (l : Listener). not l.used) (tables_of a.octets.now).listeners in
    let p = err_from_is_err_and c.from_residual-in_err-k.result c.from_residual-in_err-k.ensures.1 in
    let s = refused-none o NoFreeSlot c.find_free_listener.ensures c.ok_or.ensures.value _ c.in_err-k.was in
    rw (p.1, p.2, s.1)
    (listen-full a.com_id a.senders a.uri a.octets.now
    (judged c.new-l.result
    (λ (l : Listener). first_of (listen_checks l.com_id l.senders l.uri (tables_of a.octets.now).listeners))
    c.new-l.ensures (sym c.judge_listener.ensures ∙ c.in_ok-judge_listener.was))
    s.0)

pub returns : goal.returns
returns c =
    let a = c.args in
    let o = lowest (λ (l : Listener). not l.used) (tables_of a.octets.now).listeners in
    let s = granted-some o NoFreeSlot c.find_free_listener.ensures c.ok_or.ensures.value _ c.in_ok-k.was in
    listen-done a.com_id a.senders a.uri a.octets.now
    (judged c.new-l.result
    (λ (l : Listener). first_of (listen_checks l.com_id l.senders l.uri (tables_of a.octets.now).listeners))
    c.new-l.ensures (sym c.judge_listener.ensures ∙ c.in_ok-judge_listener.was))
    c.in_ok-k.k s _ (rw (← c.new-l.ensures) c.put_listener.ensures)
