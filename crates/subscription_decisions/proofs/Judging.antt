-- A datagram judged by checks 2 to 7: taking it apart gives the refusal of 2 to 6, its header 7.
-- Assumes nothing.
use Rattle.std.proofs.Common.{◌≡◌, sym, ap, ◌∙◌, ℕ, ◌+◌, ◌-◌, ◌≤◌, List, [], ◌∷◌, false, true, length, take, drop, arith}
use Rattle.std.specs.Prelude.{Ok, Err, Result}
use Rattle.refusal.specs.declared.Refusal.{Refusal}
use Rattle.refusal.specs.declared.Refusal.TheVariants as why
use Rattle.refusal.specs.Refusal.{first_of, answer}
use Rattle.refusal.proofs.Order.{and_then, first_of-append}
use Rattle.topography.specs.Topography.{passes}
use Rattle.telegram.specs.Telegram.{common_of, checks, dataset_of}
use Rattle.telegram.specs.declared.Family.TheVariants as family
use Rattle.telegram.proofs.Reading.{whole}
use Rattle.arrival.specs.Arrival.{topography_check, counts_of}
use Rattle.arrival.specs.declared.Arrival.{Arrival}
use Rattle.pd.specs.Pd.{header_of, take_pd}
use Rattle.pd.specs.declared.PdHeader.{PdHeader}
use Rattle.subscription_table.specs.Slot.{refusal, passed, judged_by, judged, heard_of}

module _ {G : Type 0} where
  shut : (v : Result (Unit {0}) Refusal) (g : G) (r : Refusal) → answer v g ≡ Err r → v ≡ Err r
  shut (Ok v) g r e = grind arith
  shut (Err s) g r e = grind arith

  opened : (v : Result (Unit {0}) Refusal) (g x : G) → answer v g ≡ Ok x → (v ≡ Ok tt) × (g ≡ x)
  opened (Ok v) g x e = grind arith
  opened (Err r) g x e = grind arith

module _ (a : Arrival) (d : List ℕ) where
  judged-is : judged a d ≡ judged_by (and_then (first_of (checks family.Pd d)) (first_of (topography_check a d ∷ []))) (heard_of a d) (dataset_of family.Pd d)
  unfolding judged
  judged-is = ap (λ (v : Result (Unit {0}) Refusal). judged_by v (heard_of a d) (dataset_of family.Pd d)) (first_of-append (checks family.Pd d) (topography_check a d ∷ []))

  -- 2 to 6
  pub taken_refused : (r : Refusal) → take_pd d ≡ Err r → refusal r ≡ judged a d
  taken_refused r e = sym (judged-is ∙ rw (shut (first_of (checks family.Pd d)) (header_of d) r e))

  module _ (h : PdHeader) (e : take_pd d ≡ Ok h) where
    clear : first_of (checks family.Pd d) ≡ Ok tt
    clear = (opened (first_of (checks family.Pd d)) (header_of d) h e).0

    pub header-is : header_of d ≡ h
    header-is = (opened (first_of (checks family.Pd d)) (header_of d) h e).1

    common-is : h.common ≡ common_of d
    common-is = sym (ap (λ (x : PdHeader). x.common) header-is)

    -- 7
    pub not-local : passes (counts_of h.common) a.local ≡ false → refusal why.Topography ≡ judged a d
    not-local n = let m = rw common-is at n in sym (judged-is ∙ rw (clear, m))

    pub let_in : passes (counts_of h.common) a.local ≡ true
        → passed (record { com_id = h.common.com_id; sender = a.sender; destination = a.destination; counter = h.common.sequence_counter; time = a.time }) (take (40 + h.common.dataset_length - 40) (drop 40 d)) ≡ judged a d
    let_in n =
        let m = rw common-is at n in
        let l : 40 + (common_of d).dataset_length - 40 ≡ (common_of d).dataset_length = omega arith in
        rw (common-is, l) (sym (judged-is ∙ rw (clear, m)))

    -- the datagram has its dataset
    pub has-dataset : 40 + h.common.dataset_length ≤ length d
    has-dataset = let w = (whole family.Pd d clear).1 in rw common-is (omega (arith, w))
