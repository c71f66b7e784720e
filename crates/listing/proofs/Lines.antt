-- What a line that was read tells of the listing.
-- Assumes nothing.
use Rattle.std.proofs.Common.{◌≡◌, ℕ, ◌+◌, Bool, true, false, cond, List, length, take, drop, refl, ap, ◌∙◌, subst, ap₂, arith, take_at}
use Rattle.octets.specs.Octets.{put}
use Rattle.capture.specs.declared.Frame.{Frame}
use Rattle.std.specs.Prelude.{Option, Some, None}
use Rattle.capture.specs.Frame.{is_frame, datagram_of, fields_of, frame_of}
use Rattle.listing.specs.declared.Listing.{Listing}
use Rattle.listing.specs.declared.Outcome.{Outcome}
use Rattle.listing.specs.Listing.{Hands, Keeps, Lists}

-- a frame's datagram stands in the first octets of the buffer
pub first-octets : (s before after : List ℕ) (f : Frame) → Some f ≡ frame_of s → after ≡ cond (is_frame s) (put 0 (datagram_of s) before) before → take f.octets after ≡ datagram_of s
first-octets s before after f e a = go (is_frame s) refl
  where
    go : (b : Bool) → is_frame s ≡ b → take f.octets after ≡ datagram_of s
    go true h =
        let r : Some f ≡ Some (fields_of s) = e ∙ ap (λ (b : Bool). cond b (Some (fields_of s)) None) h in
        let n : f.octets ≡ length (datagram_of s) = cc in
        let w : after ≡ put 0 (datagram_of s) before = a ∙ ap (λ (b : Bool). cond b (put 0 (datagram_of s) before) before) h in
        ap₂ (λ (k : ℕ) (t : List ℕ). take k t) n w ∙ take_at (datagram_of s) (drop (0 + length (datagram_of s)) before) (length (datagram_of s)) refl
    go false h =
        let r : Some f ≡ None = e ∙ ap (λ (b : Bool). cond b (Some (fields_of s)) None) h in
        let z : ◌≡◌ {A = ℕ} 0 1 = cc in
        absurd (omega arith)

module _ {l : Listing} {store : List ℕ} {o : Outcome} {l' : Listing} {store' : List ℕ} (s : List ℕ) where
  pub lists-frame : {d : List ℕ} (f : Frame) → Some f ≡ frame_of s → d ≡ datagram_of s → Hands l f d store o l' store' → Lists l (frame_of s) (datagram_of s) store o l' store'
  lists-frame f e d h =
      subst (λ (x : Option Frame). Lists l x (datagram_of s) store o l' store') e (subst (λ (w : List ℕ). Hands l f w store o l' store') d h)

  pub lists-bad : None ≡ frame_of s → Keeps l store o l' store' → Lists l (frame_of s) (datagram_of s) store o l' store'
  lists-bad e h = subst (λ (x : Option Frame). Lists l x (datagram_of s) store o l' store') e h
