-- 11 is asked first, then 20, then 12 by a search.
use Rattle.session.specs.Listener.{holds}
use Rattle.packed.specs.Packed.{tables_of}
use Rattle.session_table.proofs.Searches.{asked}
use Rattle.sessions.proofs.judge_listener.Goals as goal

pub returns-then-is_some : goal.returns-then-is_some
returns-then-is_some c =
    let l = c.args.l.now in
    rw (
      ← c.is_reversed.ensures,
      c.if-is_reversed.false,
      ← c.is_sound.ensures,
      c.if-not-is_sound.false,
      asked (holds l.com_id l.senders l.uri) (tables_of c.args.octets.now).listeners _ _ _ c.find_holding.ensures
          c.is_some.ensures c.if-is_some.true,
    )

pub returns : goal.returns
returns c =
    let l = c.args.l.now in
    rw (
      ← c.is_reversed.ensures,
      c.if-is_reversed.false,
      ← c.is_sound.ensures,
      c.if-not-is_sound.false,
      asked (holds l.com_id l.senders l.uri) (tables_of c.args.octets.now).listeners _ _ _ c.find_holding.ensures
          c.is_some.ensures c.if-is_some.false,
    )
