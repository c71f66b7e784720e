-- The part from its first octet on.
use mathlib.Core.Path.{ap, ◌∙◌}
use Prim.Native.Nat.{ℕ, ◌*◌}
use borrow.Author.Tests.{lt-ltb, le-leb}
use native.Mathlib.Nat.{add-sub_cancel_left}
use lib.ListN.{take, drop}
use Rattle.fcs.specs.Fcs.{crc32}
use Rattle.answer.specs.Answer.{number}
use Rattle.answer.proofs.Rooms.{◌▹◌, filled_as}
use Rattle.scenario_pd_look.proofs.put_part.Goals as goal

pub returns-then-k-store : goal.returns-then-k-store
returns-then-k-store c =
    let a = c.args in
    rw (lt-ltb _ _ c.if-k-lt32.true, le-leb _ _ c.if-k-store.true)
    (c.word.ensures
    ▹ filled_as _
    (ap (number 8)
    (c.frame_check.ensures
    ∙ ap (λ (n : ℕ). crc32 (take n (drop (a.k * 1432) a.store.now))) (add-sub_cancel_left (a.k * 1432) 1432)))
    c.number.ensures)
