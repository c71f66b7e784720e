-- What the checks of a datagram tell: all that a header that passes them is known to meet.
-- Assumes nothing.
-- a header that passes 2 to 5, and 6 as far as it tells
use mathlib.Core.Path.{◌≡◌, refl, sym, ◌∙◌}
use mathlib.Core.List.{List, [], ◌∷◌}
use mathlib.Core.Bool.{true}
use Prim.Native.Nat.{ℕ, ◌+◌, ◌-◌, ◌/◌, ◌≤◌}
use native.Mathlib.Omega.{arith}
use lib.ListN.{length, take}
use borrow.Author.Tests.{ltb-false, eqb-true, not-false}
use Rattle.fcs.specs.Fcs.{crc32}
use Rattle.octets.specs.Octets.{little, part}
use Rattle.refusal.specs.Refusal.{first_of}
use Rattle.refusal.proofs.Order.{passed, and_then, first_of-append}
use Rattle.refusal.specs.declared.Refusal.{Refusal}
use Rattle.std.specs.Prelude.{Ok, Err, Result}
use Rattle.telegram.specs.declared.Family.{Family}
use Rattle.telegram.specs.Telegram.{header_size, dataset_limit, types, member, padded, common_of, header_checks, length_check, checks}

pub record Sound (f : Family) (d : List ℕ) : Type 0 where
  pub size : header_size f ≤ length d
  pub check : crc32 (take (header_size f - 4) d) ≡ little (part 4 (header_size f - 4) d)
  pub version : (common_of d).protocol_version / 256 ≡ 1
  pub type : member (common_of d).msg_type (types f) ≡ true
  pub limit : (common_of d).dataset_length ≤ dataset_limit f

pub sound : (f : Family) (d : List ℕ) → first_of (header_checks f d) ≡ Ok tt → Sound f d
sound f d e =
    let p = passed (header_checks f d) e in
    record {
      size = ltb-false _ _ p.0;
      check = eqb-true _ _ (not-false _ p.1.0);
      version = eqb-true _ _ (not-false _ p.1.1.0);
      type = not-false _ p.1.1.1.0;
      limit = ltb-false _ _ p.1.1.1.1.0;
    }

-- 2 to 6 are the header's checks, then the length
pub in_order : (f : Family) (d : List ℕ)
    → first_of (checks f d) ≡ and_then (first_of (header_checks f d)) (first_of (length_check f d ∷ []))
in_order f d = first_of-append (header_checks f d) (length_check f d ∷ [])

-- a header's refusal comes first
pub header-first : (f : Family) (d : List ℕ) (r : Refusal) → Err r ≡ first_of (header_checks f d) → Err r ≡ first_of (checks f d)
header-first f d r e = rw (in_order f d, ← e) refl

-- where the header passes, the datagram's length decides
pub then-length : (f : Family) (d : List ℕ) → first_of (header_checks f d) ≡ Ok tt
    → first_of (checks f d) ≡ first_of (length_check f d ∷ [])
then-length f d e = rw (in_order f d, e) refl

-- a datagram that passes 2 to 6
pub whole : (f : Family) (d : List ℕ) → first_of (checks f d) ≡ Ok tt
    → (first_of (header_checks f d) ≡ Ok tt) × (length d ≡ header_size f + padded (common_of d).dataset_length)
whole f d e = go (first_of (header_checks f d)) refl (sym (in_order f d) ∙ e)
  where
    go : (v : Result (Unit {0}) Refusal) → first_of (header_checks f d) ≡ v → and_then v (first_of (length_check f d ∷ [])) ≡ Ok tt
        → (first_of (header_checks f d) ≡ Ok tt) × (length d ≡ header_size f + padded (common_of d).dataset_length)
    go (Ok v) q z = (q, eqb-true _ _ (not-false _ (passed (length_check f d ∷ []) z).0))
    go (Err r) q z = grind arith
