-- What a line says with fields that were read; a writer's answer in words; what a line over the publication leaves.
-- Assumes nothing.
use mathlib.Core.Path.{◌≡◌, refl, sym, ap, ap₂, ◌∙◌}
use mathlib.Core.List.{List, ◌++◌}
use mathlib.Core.Option.{Option, none, some}
use Prim.Native.Nat.{ℕ}
use lib.IntN.{ℤ}
use native.Mathlib.Omega.{arith}
use lib.ListN.{length, take, replicate}
use Rattle.std.specs.Prelude.{Option as Maybe, None, Some, Ok, Err, Result}
use Rattle.refusal.specs.declared.Refusal.{Refusal}
use Rattle.refusal.specs.Refusal.{first_of, number as number_of}
use Rattle.fcs.specs.Fcs.{crc32}
use Rattle.telegram.specs.declared.Common.{Common}
use Rattle.telegram.specs.Telegram.{Wrote}
use Rattle.pd.specs.declared.PdHeader.{PdHeader}
use Rattle.pd.specs.Pd as pd
use Rattle.md.specs.declared.MdHeader.{MdHeader}
use Rattle.md.specs.Md as md
use Rattle.publication.specs.declared.Publication.{Publication}
use Rattle.publication.specs.Publication.{send_checks, Sends}
use Rattle.line.specs.Line.{with_octets, target_after, four, target_of}
use Rattle.line.specs.Read.{last_in}
use Rattle.line.proofs.Fields.{last_none, last_some, target_is}
use Rattle.answer.specs.Answer.{ascii, word, number, refused}
use Rattle.answer.specs.declared.Room.{Room}
use Rattle.answer.specs.Lent.{Fills}
use Rattle.answer.proofs.Rooms.{filled_as}
use Rattle.scenario_wire_words.specs.Words.{written_words}
use Rattle.answer.proofs.Said.{not_answered, answered_by}
use Rattle.scenario_wire.specs.Wire.{found, with_found, wrote_words, pd_wrote_words, md_wrote_words, taken_words}
use Rattle.scenario_wire.specs.Wire.{crc_words}
use Rattle.scenario_wire.specs.Publications.{Said, sent_said, Publishes}

-- header fields that were not found
pub not_found : {H : Type 0} {x : Option (H × List ℕ)} {r : Maybe H} (left : List ℕ) → r ≡ None → x ≡ none →
    found r left ≡ x
not_found left e h = rw e (sym h)

-- what is said of those that were found, or were not
module _ {H A : Type 0} {x : Option (H × List ℕ)} (k : H → List ℕ → Option A) where
  pub found_none : none ≡ x → with_found x k ≡ none
  found_none e = ap (λ (f : Option (H × List ℕ)). with_found f k) (sym e)

  pub found_some : {h : H} {left : List ℕ} → some (h, left) ≡ x → with_found x k ≡ k h left
  found_some e = ap (λ (f : Option (H × List ℕ)). with_found f k) (sym e)

-- a line whose only field is its last
module _ {A : Type 0} {b s : List ℕ} (k : List ℕ → A) (t : List ℕ) (e : b ≡ s) (l : 66000 ≡ length t) where
  pub only_none : None ≡ last_in b (length t) → with_octets s k ≡ none
  only_none h = rw (← e) (last_none b k t l h)

  pub only_some : (n : ℕ) (o : List ℕ) → Some n ≡ last_in b (length t) → o ≡ target_after b t →
      with_octets s k ≡ some (k (take n o))
  only_some n o h w = rw (← e) (last_some b k n t o l h w)

-- the target that a field of 4 digits asks for
pub target_read : (x : ℕ) {k v : ℕ} {t : List ℕ} → k ≡ v → t ≡ replicate 65536 0xAA → v ≡ four x →
    take k t ≡ target_of (four x)
target_read x {k} {v} {t} i e q = target_is t k e (omega (arith, i, q)) ∙ ap target_of (i ∙ q)

-- what each fills
module _ (d : List ℕ) {a b : Room} where
  pub crc_filled : {x : ℕ} → x ≡ crc32 d → Fills (word "crc" ++ number 8 x) a b → Fills (crc_words d) a b
  unfolding crc_words
  crc_filled e f = filled_as (crc_words d) (ap (λ (k : ℕ). word "crc" ++ number 8 k) e) f

  module _ {H : Type 0} (words : H → List ℕ → List (List ℕ)) {r t : Result H Refusal} where
    pub header_filled : (h : H) → r ≡ t → r ≡ Ok h → Fills (words h d) a b → Fills (taken_words words t d) a b
    header_filled h e i f = filled_as (taken_words words t d)
        (ap (λ (x : Result H Refusal). taken_words words x d) (sym i ∙ e)) f

    pub refusal_filled : (x : Refusal) {k : ℕ} → r ≡ t → r ≡ Err x → k ≡ number_of x → Fills (refused k) a b →
        Fills (taken_words words t d) a b
    refusal_filled x e i j f =
        filled_as (taken_words words t d) (ap refused j
        ∙ ap (λ (y : Result H Refusal). taken_words words y d) (sym i ∙ e)) f

-- the same words of what was read
pub md_words_of : (c : Common) {z z' : ℤ} {x x' : ℕ} (i u v : List ℕ) {t t' : List ℕ} (d : List ℕ) → z ≡ z' → x ≡ x' →
    t ≡ t' → md_wrote_words (record { common = c; reply_status = z; reply_timeout = x }) i u v t d
    ≡ md_wrote_words (record { common = c; reply_status = z'; reply_timeout = x' }) i u v t' d
md_words_of c i u v d e1 e2 e3 = rw (e1, e2, e3)

-- a writer's answer
module _ (done telegram before target : List ℕ) where
  pub written_as : (judged : Result (Unit {0}) Refusal) (w : Result ℕ Refusal) →
      Wrote judged telegram before w target → written_words done w target ≡ wrote_words done judged telegram before
  written_as (Ok v) w x = ap₂ (written_words done) x.answers x.leaves
  written_as (Err r) w x = ap₂ (written_words done) x.answers x.leaves

pub pd_wrote : (h : PdHeader) (before d : List ℕ) (w : Result ℕ Refusal) (target : List ℕ) →
    Wrote (first_of (pd.write_checks_pd h (length d) (length before))) (pd.frame_of h d) before w target →
    written_words (ascii "wrote") w target ≡ pd_wrote_words h before d
unfolding pd_wrote_words
pd_wrote h before d w target x =
    written_as (ascii "wrote") (pd.frame_of h d) before target
    (first_of (pd.write_checks_pd h (length d) (length before))) w x

pub md_wrote : (h : MdHeader) (id source destination before d : List ℕ) (w : Result ℕ Refusal) (target : List ℕ) →
    Wrote (first_of (md.write_checks_md h source destination (length d) (length before)))
    (md.frame_of h id source destination d) before w target →
    written_words (ascii "wrote") w target ≡ md_wrote_words h id source destination before d
unfolding md_wrote_words
md_wrote h id source destination before d w target x =
    written_as
    (ascii "wrote")
    (md.frame_of h id source destination d)
    before
    target
    (first_of (md.write_checks_md h source destination (length d) (length before)))
    w
    x

-- what a line over the publication leaves: one that says nothing, and one that says something
module _ {x : Option Said} {held : Maybe Publication} {a : Room} where
  pub publishes_none : {r : Maybe (Unit {0})} → r ≡ None → x ≡ none → Publishes x held a r held a
  publishes_none i e = rw (i, e) (record { words = not_answered refl a; publication = refl })

  pub publishes_some : {left : Maybe Publication} {b : Room} (y : Said) → x ≡ some y → Fills y.words a b →
      left ≡ y.held → Publishes x held a (Some tt) left b
  publishes_some y e f h = rw e (record { words = answered_by refl f; publication = h })

-- a sending's words, and the publication after it
module _ (p after : Publication) (time : ℕ) (before d : List ℕ) (r : Result ℕ Refusal) (target : List ℕ) where
  pub sent_words : Sends (first_of (send_checks p time (length d) (length before))) p time d before r after target →
      written_words (ascii "sent") r target ≡ (sent_said p time before d).words
  unfolding sent_said
  sent_words x =
      written_as (ascii "sent") (pd.frame_of p.header d) before target
      (first_of (send_checks p time (length d) (length before))) r x.writes

  pub sent_held : Sends (first_of (send_checks p time (length d) (length before))) p time d before r after target →
      Some after ≡ (sent_said p time before d).held
  unfolding sent_said
  sent_held x = ap Some x.leaves
