-- A telegram that the writer grants passes the checks of the reader, and the fields of one that passes are granted.
-- Assumes nothing.
use mathlib.Core.Path.{◌≡◌, sym, ap, ◌∙◌}
use mathlib.Core.List.{List}
use mathlib.Core.Bool.{Bool, true, not}
use Prim.Native.Nat.{ℕ, ◌+◌, ◌-◌, ◌/◌, ◌≤◌}
use native.Mathlib.Omega.{arith}
use lib.Dec.{eqb, ltb}
use lib.ListN.{length, take}
use borrow.Author.Tests.{le-ltb, eq-eqb}
use Rattle.fcs.specs.Fcs.{crc32}
use Rattle.octets.specs.Octets.{little, part}
use Rattle.refusal.specs.Refusal.{first_of}
use Rattle.refusal.proofs.Order.{passes}
use Rattle.std.specs.Prelude.{Ok}
use Rattle.telegram.specs.declared.Common.{Common}
use Rattle.telegram.specs.declared.Family.{Family}
use Rattle.telegram.specs.Telegram.{header_size, dataset_limit, types, member, padded, common_of, checks, write_checks, telegram_of}
use Rattle.telegram.proofs.Families.{bounds}
use Rattle.telegram.proofs.Finished.{length-telegram}
use Rattle.telegram.proofs.Reading.{Sound}
use Rattle.telegram.proofs.Writing.{Granted}
use Rattle.telegram.proofs.RoundTrip.{with_length, front-back, check-back}

pub granted-passes : (f : Family) (c : Common) (front s : List ℕ) (sound_uris : Bool) (room : ℕ) → length front ≡ header_size f - 4
    → common_of (telegram_of front s) ≡ with_length c (length s) → Granted f c (length s) sound_uris room
    → first_of (checks f (telegram_of front s)) ≡ Ok tt
granted-passes f c front s sound_uris room long e g =
    let t : List ℕ = telegram_of front s in
    let least : 40 ≤ header_size f = (bounds f).least in
    let size : length t ≡ header_size f + padded (length s) =
    let l : length t ≡ length front + 4 + padded (length s) = length-telegram front s in omega arith in
    let k : ℕ = header_size f - 4 in
    let check : crc32 (take k t) ≡ little (part 4 k t) = ap crc32 (front-back front s k long) ∙ sym (check-back front s k long) in
    passes (checks f t) (
      le-ltb (length t) (header_size f) (omega arith),
      (
        ap not (eq-eqb (crc32 (take k t)) (little (part 4 k t)) check),
        (
          ap (λ (x : Common). not (eqb (x.protocol_version / 256) 1)) e ∙ ap not (eq-eqb _ _ g.version),
          (
            ap (λ (x : Common). not (member x.msg_type (types f))) e ∙ ap not g.type,
            (
              ap (λ (x : Common). ltb (dataset_limit f) x.dataset_length) e ∙ le-ltb _ _ g.limit,
              (ap (λ (x : Common). not (eqb (length t) (header_size f + padded x.dataset_length))) e ∙ ap not (eq-eqb _ _ size), tt),
            ),
          ),
        ),
      ),
    )

pub sound-granted : (f : Family) (d : List ℕ) (n : ℕ) (sound_uris : Bool) (room : ℕ) → Sound f d → n ≡ (common_of d).dataset_length → sound_uris ≡ true → header_size f + padded n ≤ room
    → first_of (write_checks f (common_of d) n sound_uris room) ≡ Ok tt
sound-granted f d n sound_uris room s e u h =
    passes (write_checks f (common_of d) n sound_uris room) (
      ap not (eq-eqb _ _ s.version),
      (ap not s.type, (le-ltb (dataset_limit f) n (omega (arith, s.limit)), (ap not u, (le-ltb room (header_size f + padded n) h, tt)))),
    )
