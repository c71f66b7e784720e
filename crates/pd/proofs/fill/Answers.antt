-- The fields are written one behind the other, then the telegram is finished.
use mathlib.Core.List.{List}
use mathlib.Core.Path.{refl}
use Prim.Native.Nat.{ℕ}
use lib.ListN.{length}
use Rattle.telegram.specs.Telegram.{common_octets}
use Rattle.telegram.proofs.Finished.{finished}
use Rattle.octets.proofs.Puts.{none, next}
use Rattle.octets.specs.Octets.{big_of}
use Rattle.pd.proofs.fill.Goals as goal

pub returns : goal.returns
returns c =
    let a = c.args in
    let s : List ℕ = a.dataset.now in
    let w1 = next (none a.target.now) (common_octets a.h.common (length s)) 24 refl c.write.ensures in
    let w2 = next w1 (big_of 4 a.h.reserved) 28 refl c.put_big.ensures in
    let w3 = next w2 (big_of 4 a.h.reply_com_id) 32 refl c.put_big-2.ensures in
    let w4 = next w3 (big_of 4 a.h.reply_ip_address) 36 refl c.put_big-3.ensures in
    finished w4 s c.finish.ensures
