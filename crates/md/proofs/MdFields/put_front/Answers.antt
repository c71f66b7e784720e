-- The parts of the header are written one behind the other.
use mathlib.Core.Path.{◌≡◌, refl, ap, ◌∙◌}
use Prim.Native.Nat.{ℕ, ◌+◌}
use lib.ListN.{length}
use Rattle.telegram.specs.Telegram.{common_octets}
use Rattle.octets.proofs.Puts.{none, next}
use Rattle.octets.specs.Octets.{big_of, unsigned, put}
use Rattle.md.proofs.MdFields.put_front.Goals as goal

pub returns-clause-written : goal.returns-clause-written
returns-clause-written c =
    let a = c.args in
    let m = a.self.now in
    let i : length m.session_id.now ≡ 16 = c.copy_into-arg-2-1.given in
    let s : length m.source_uri.now ≡ 32 = c.copy_into-arg-4-1.given in
    let d : length m.destination_uri.now ≡ 32 = c.copy_into-arg-6-1.given in
    let w1 = next (none a.target.now) (common_octets m.header.common a.n) 24 refl c.write.ensures in
    let w2 =
    next w1 (big_of 4 (unsigned m.header.reply_status)) 28 refl
    (c.put_big.ensures ∙ ap (λ (x : ℕ). put 24 (big_of 4 x) c.write.new.target) c.status.ensures) in
    let w3 = next w2 m.session_id.now 44 (ap (λ (k : ℕ). 28 + k) i) c.copy_into.ensures in
    let w4 = next w3 (big_of 4 m.header.reply_timeout) 48 refl c.put_big-2.ensures in
    let w5 = next w4 m.source_uri.now 80 (ap (λ (k : ℕ). 48 + k) s) c.copy_into-2.ensures in
    let w6 = next w5 m.destination_uri.now 112 (ap (λ (k : ℕ). 80 + k) d) c.copy_into-3.ensures in
    w6.holds
