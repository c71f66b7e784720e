-- What an answer tells of the judgement behind it.
-- Assumes nothing.
use Rattle.std.proofs.Common.{◌≡◌, refl, arith}
use Rattle.std.specs.Prelude.{Ok, Err, Result}
use Rattle.refusal.specs.declared.Refusal.{Refusal}
use Rattle.refusal.specs.Refusal.{answer, after}
use Rattle.refusal.proofs.Order.{and_then}

module _ {G : Type 0} where
  -- a refusal stays the first one, whatever is checked behind it
  pub stays : (v w : Result (Unit {0}) Refusal) (r : Refusal) (g : G) → answer v g ≡ Err r → answer v g ≡ answer (and_then v w) g
  stays (Ok v) w r g e = grind arith
  stays (Err s) w r g e = refl

  -- what was granted met no check
  pub opened : (v : Result (Unit {0}) Refusal) (g x : G) → answer v g ≡ Ok x → (v ≡ Ok tt) × (g ≡ x)
  opened (Ok v) g x e = grind arith
  opened (Err r) g x e = grind arith

  -- a refused call keeps what there was
  pub keeps : {S : Type 0} (v : Result (Unit {0}) Refusal) (r : Refusal) (g : G) (changed before : S) → answer v g ≡ Err r → before ≡ after v changed before
  keeps (Ok v) r g changed before e = grind arith
  keeps (Err s) r g changed before e = refl

  -- one that granted changed it
  pub changes : {S : Type 0} (v : Result (Unit {0}) Refusal) (g x : G) (changed before : S) → answer v g ≡ Ok x → changed ≡ after v changed before
  changes (Ok v) g x changed before e = refl
  changes (Err r) g x changed before e = grind arith
