-- A telegram finished behind the octets written before: the target begins with the whole telegram.
-- Assumes nothing.
-- the length of what is written
use mathlib.Core.Path.{◌≡◌, ap, ◌∙◌}
use mathlib.Core.List.{List}
use Prim.Native.Nat.{ℕ, ◌+◌}
use native.Mathlib.Omega.{arith}
use lib.ListN.{length, take, length-append, length-replicate}
use Rattle.octets.specs.Octets.{put}
use Rattle.octets.proofs.Puts.{Begun, covers, begins}
use Rattle.telegram.specs.Telegram.{padded, telegram_of}

pub length-telegram : (front s : List ℕ) → length (telegram_of front s) ≡ length front + 4 + padded (length s)
length-telegram front s = simp (length-append, length-replicate) (omega arith)

pub finished : {o xs l : List ℕ} {k : ℕ} → Begun o k xs l → (s : List ℕ) {m : List ℕ} → m ≡ put 0 (telegram_of (take k l) s) l → m ≡ put 0 (telegram_of xs s) o
finished {o} {xs} {l} {k} w s q =
    q
    ∙ ap (λ (x : List ℕ). put 0 (telegram_of x s) l) (begins w)
    ∙ covers w (telegram_of xs s) (omega (arith, length-telegram xs s, w.long))
