-- The lowest listener that hears the telegram was found, or none.
use Rattle.std.proofs.lemmas.Result.{err_from_is_err_and}
use Rattle.refusal.specs.declared.Refusal.TheVariants.{NoMatch}
use Rattle.session_table.specs.Table.{hearing}
use Rattle.session_table.proofs.Searches.{refused-none, granted-some}
use Rattle.packed.specs.Packed.{tables_of}
use Rattle.messages.specs.Arriving.{heard_by}
use Rattle.messages.proofs.Arrived.{unheard, heard}
use Rattle.messages.proofs.Message.notify.Goals as goal

pub returns-in_err-listener : goal.returns-in_err-listener
returns-in_err-listener c =
    let o = c.args.octets.now in
    let h = heard_by c.args.self.now in
    let l = hearing h (tables_of o).listeners in
    let p = err_from_is_err_and c.from_residual.result c.from_residual.ensures.1 in
    let s = refused-none l NoMatch c.listener.ensures c.ok_or.ensures.value _ c.in_err-listener.was in
    rw (p.1, p.2, s.1) (unheard o h s.0)

pub returns : goal.returns
returns c =
    let o = c.args.octets.now in
    let h = heard_by c.args.self.now in
    let l = hearing h (tables_of o).listeners in
    heard o h c.in_ok-listener.listener
    (granted-some l NoMatch c.listener.ensures c.ok_or.ensures.value _ c.in_ok-listener.was)
