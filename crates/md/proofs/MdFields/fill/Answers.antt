-- The header is written up to its check field, then the telegram is finished.
use mathlib.Core.List.{List}
use mathlib.Core.Path.{◌≡◌}
use Prim.Native.Nat.{ℕ}
use native.Mathlib.Omega.{arith}
use lib.ListN.{length}
use Rattle.md.specs.Md.{front_of}
use Rattle.telegram.proofs.Finished.{length-telegram, finished}
use Rattle.octets.proofs.Puts.{begun}
use Rattle.md.proofs.MdFields.fill.Goals as goal

pub returns : goal.returns
returns c =
    let a = c.args in
    let m = a.self.now in
    let s : List ℕ = a.dataset.now in
    let front : List ℕ = front_of m.header m.session_id.now m.source_uri.now m.destination_uri.now (length s) in
    let long : length front ≡ 112 = c.put_front.ensures.long in
    record { written = finished (begun a.target.now front 112 long c.put_front.ensures.written) s c.finish.ensures; long = omega (arith, length-telegram front s, c.padded_length.ensures, long) }
