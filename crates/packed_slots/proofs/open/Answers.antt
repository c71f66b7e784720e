-- The identifier is sought, then a free slot.
use Rattle.std.proofs.lemmas.Result.{err_from_is_err_and}
use Rattle.refusal.specs.declared.Refusal.TheVariants.{NoFreeSession}
use Rattle.tables.specs.Lists.{lowest}
use Rattle.session.specs.declared.Session.{Session}
use Rattle.session_table.proofs.Searches.{refused-none, granted-some, asked}
use Rattle.session.specs.Session.{has, is_free}
use Rattle.packed.specs.Packed.{tables_of}
use Rattle.packed_slots.proofs.Places.{places-in-use, places-full, places-slot}
use Rattle.packed_slots.proofs.open.Goals as goal

pub returns-then-is_some : goal.returns-then-is_some
returns-then-is_some c =
    let a = c.args in
    places-in-use a.id a.state a.octets.now
    (asked (has a.id) (tables_of a.octets.now).sessions _ _ _
    c.find_session.ensures c.is_some.ensures c.if-is_some.true)

pub returns-in_err-k : goal.returns-in_err-k
returns-in_err-k c =
    let a = c.args in
    let o = lowest (λ (x : Session). is_free x.state) (tables_of a.octets.now).sessions in
    let p = err_from_is_err_and c.from_residual.result c.from_residual.ensures.1 in
    let s = refused-none o NoFreeSession c.find_free_session.ensures c.ok_or.ensures.value _ c.in_err-k.was in
    rw (p.1, p.2, s.1)
    (places-full a.id a.state a.octets.now
    (asked (has a.id) (tables_of a.octets.now).sessions _ _ _
    c.find_session.ensures c.is_some.ensures c.if-is_some.false)
    s.0)

pub returns : goal.returns
returns c =
    let a = c.args in
    let o = lowest (λ (x : Session). is_free x.state) (tables_of a.octets.now).sessions in
    let s = granted-some o NoFreeSession c.find_free_session.ensures c.ok_or.ensures.value _ c.in_ok-k.was in
    places-slot a.id a.state a.octets.now _ _
    (asked (has a.id) (tables_of a.octets.now).sessions _ _ _
    c.find_session.ensures c.is_some.ensures c.if-is_some.false)
    s c.put_session.ensures
