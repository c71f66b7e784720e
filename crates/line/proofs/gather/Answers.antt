-- The line was too long already, becomes so, or takes the octets.
use Prim.Native.Nat.{◌+◌}
use native.Mathlib.Omega.{arith}
use lib.ListN.{length}
use Rattle.line.proofs.Ends.{gather-fits, gather-over}
use Rattle.line.proofs.gather.Goals as goal

pub returns-then-line-begun : goal.returns-then-line-begun
returns-then-line-begun c =
    let a = c.args in
    gather-over a.more.now a.begun a.line.now a.begun (omega arith) (omega arith)

pub returns-then-line-begun-2 : goal.returns-then-line-begun-2
returns-then-line-begun-2 c =
    let a = c.args in
    gather-over a.more.now a.begun a.line.now (length a.line.now + 1) (omega arith) (omega arith)

pub returns : goal.returns
returns c =
    let a = c.args in
    gather-fits a.more.now a.begun a.line.now c.copy_into.new.target (omega arith) c.copy_into.ensures
