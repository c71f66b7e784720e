-- A header is taken exactly where the checks pass.
-- Assumes nothing.
use Rattle.std.proofs.Common.{◌≡◌, ℕ, List}
use Rattle.std.specs.Prelude.{Ok}
use Rattle.refusal.specs.Refusal.{first_of}
use Rattle.refusal.proofs.Answer.{opened}
use Rattle.telegram.specs.Telegram.{header_checks, checks}
use Rattle.telegram.specs.declared.Family.TheVariants as family
use Rattle.pd.specs.declared.PdHeader.{PdHeader}
use Rattle.pd.specs.Pd.{header_of, take_header, take_pd}

-- a header that was taken passed its checks, and is the one that the octets write
pub header-taken : (d : List ℕ) (x : PdHeader) → take_header d ≡ Ok x → (first_of (header_checks family.Pd d) ≡ Ok tt) × (header_of d ≡ x)
header-taken d x e = opened (first_of (header_checks family.Pd d)) (header_of d) x e

pub taken : (d : List ℕ) (x : PdHeader) → take_pd d ≡ Ok x → (first_of (checks family.Pd d) ≡ Ok tt) × (header_of d ≡ x)
taken d x e = opened (first_of (checks family.Pd d)) (header_of d) x e
