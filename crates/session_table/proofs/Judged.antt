-- What checks 2 to 7 and 20 make of a datagram.
-- Assumes nothing.
use mathlib.Core.Path.{◌≡◌, refl, ap, ◌∙◌}
use mathlib.Core.Bool.{not, ◌&&◌}
use mathlib.Core.List.{List, [], ◌∷◌}
use Prim.Native.Nat.{ℕ}
use Rattle.std.specs.Prelude.{Ok, Err, Result}
use Rattle.refusal.specs.declared.Refusal.{Refusal}
use Rattle.refusal.specs.declared.Refusal.TheVariants.{Uri}
use Rattle.refusal.specs.Refusal.{Check, ◌when◌, first_of, answer}
use Rattle.refusal.proofs.Order.{and_then, first_of-append}
use Rattle.refusal.proofs.Answer.{opened}
use Rattle.arrival.specs.declared.Arrival.{Arrival}
use Rattle.md.specs.declared.MdHeader.{MdHeader}
use Rattle.arrival.specs.Arrival.{topography_check, arrival_checks}
use Rattle.telegram.specs.Telegram.{checks}
use Rattle.telegram.specs.declared.Family.TheVariants as family
use Rattle.md.specs.Uri.{sound}
use Rattle.md.specs.Md.{header_of, source_uri_of, destination_uri_of}
use Rattle.session_table.specs.Table.{Tables}
use Rattle.session_table.specs.Table as table
use Rattle.session_table.specs.Table.{judged, judged_by, heard_of, md_checks, telegram, refused_plain}

module _ (a : Arrival) (d : List ℕ) where
  -- 2 to 6, then 7, then 20
  pub in_order : first_of (md_checks a d)
      ≡ and_then (and_then (first_of (checks family.Md d)) (first_of (topography_check a d ∷ [])))
      (first_of (Uri when not (sound (source_uri_of d) && sound (destination_uri_of d)) ∷ []))
  in_order =
      let uri : List Check = Uri when not (sound (source_uri_of d) && sound (destination_uri_of d)) ∷ [] in
      first_of-append (arrival_checks family.Md a d) uri
      ∙ ap (λ (v : Result (Unit {0}) Refusal). and_then v (first_of uri))
      (first_of-append (checks family.Md d) (topography_check a d ∷ []))

  -- the header, or the first refusal of 2 to 7 and 20
  abbrev pub taken : Result MdHeader Refusal
  taken = answer (first_of (md_checks a d)) (header_of d)

  pub not_passed : (r : Refusal) → taken ≡ Err r → judged a d ≡ table.refusal r
  unfolding judged
  not_passed r e = go (first_of (md_checks a d)) e
    where
      go : (v : Result (Unit {0}) Refusal) → answer v (header_of d) ≡ Err r
          → judged_by v (heard_of a d) ≡ table.refusal r
      go (Ok v) q = cc
      go (Err n) q = let z : n ≡ r = cc in ap table.refusal z

  pub passes-all : (h : MdHeader) → taken ≡ Ok h → judged a d ≡ table.passed (heard_of a d)
  unfolding judged
  passes-all h e =
      ap (λ (v : Result (Unit {0}) Refusal). judged_by v (heard_of a d))
      (opened (first_of (md_checks a d)) (header_of d) h e).0

  pub refused-step : (t : Tables) (r : Refusal) → judged a d ≡ table.refusal r
      → table.step (telegram a d) t ≡ record { answer = refused_plain r; after = t }
  unfolding table.step
  refused-step t r j = rw j refl
