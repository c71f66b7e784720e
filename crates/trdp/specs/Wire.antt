-- The calls on telegrams, publications and datasets: what each answers, and what its target holds after it.
use Rattle.std.specs.Prelude.{ℕ, ◌≡◌, List, length, Result}
use Rattle.refusal.specs.Refusal.{answer, after}
use Rattle.refusal.specs.declared.Refusal.{Refusal}
use Rattle.octets.specs.Octets.{put}
use Rattle.pd.specs.Pd.{frame_of}
use Rattle.publication.specs.declared.Publication.{Publication}
use Rattle.publication.specs.Publication.{sent_at}
use Rattle.dataset.specs.Walk.{Walked, refusal_of, done_of}
use Rattle.boundary.specs.declared.Outcome.{Outcome}
use Rattle.boundary.specs.declared.Sending.{Sending}
use Rattle.boundary.specs.Wire.{of_result, of_sent}

-- a telegram was written to a target, or refused; octets behind what is written stay
pub record Writes (judged : Result (Unit {0}) Refusal) (telegram before : List ℕ)
    (r : Outcome) (target : List ℕ) : Type 0 where
  pub answers : r ≡ of_result (answer judged (length telegram))
  pub leaves : target ≡ after judged (put 0 telegram before) before

-- a publication was sent, or refused; a refused sending leaves record and target as they were
pub record SendsOut (judged : Result (Unit {0}) Refusal) (p : Publication) (time : ℕ) (dataset before : List ℕ)
    (r : Sending) (target : List ℕ) : Type 0 where
  pub answers : r ≡ of_sent (answer judged (length (frame_of p.header dataset))) (after judged (sent_at p time) p)
  pub leaves : target ≡ after judged (put 0 (frame_of p.header dataset) before) before

-- a dataset of n octets was converted into a target, or refused; octets behind what is written stay
pub record ConvertsTo (w : Walked) (n : ℕ) (before : List ℕ) (r : Outcome) (target : List ℕ) : Type 0 where
  pub answers : r ≡ of_result (answer (refusal_of w n (length before)) n)
  pub leaves : target ≡ after (refusal_of w n (length before)) (put 0 (done_of w) before) before
