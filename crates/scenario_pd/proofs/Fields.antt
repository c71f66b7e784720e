-- What a line asks for by its fields: those read are what the code says of them.
-- Assumes nothing.
use mathlib.Core.Path.{◌≡◌, sym, ap, ◌∙◌}
use mathlib.Core.List.{List}
use mathlib.Core.Option.{Option, none}
use Prim.Native.Nat.{ℕ, ◌*◌}
use lib.ListN.{drop}
use Rattle.std.specs.Prelude.{Option as Maybe, Some, None}
use Rattle.hexadecimal.specs.Hex.{number}
use Rattle.line.specs.Line.{with_number}
use Rattle.line.specs.Read.{Reads, words_in}
use Rattle.line.proofs.Fields.{number_some, read_value, with_words, words_none, words_some}
use Rattle.scenario_pd.specs.declared.Asked.{Asked}
use Rattle.scenario_pd.specs.Lines.{Wanted, wanted}

-- nothing is asked for
pub unasked : {r : Maybe Asked} {x : Option Wanted} → r ≡ None → x ≡ none → wanted r ≡ x
unasked e h = ap wanted e ∙ sym h

-- a number is there
pub number_said : {A : Type 0} {n v : ℕ} {b s after : List ℕ} (k : ℕ → List ℕ → Option A) → b ≡ s
    → Reads n (number 0) b (Some v) after → with_number s n k ≡ k v after
number_said {after = after} k e r = number_some k e r ∙ ap (λ (x : ℕ). k x after) (sym (read_value r))

-- n words are there, or not
module _ {A : Type 0} (n : ℕ) {b s : List ℕ} (k : List ℕ → List ℕ → Option A) (e : b ≡ s) where
  pub words_unsaid : None ≡ words_in n b → with_words n s k ≡ none
  words_unsaid w = words_none n s k (w ∙ ap (words_in n) e)

  pub words_said : {v after : List ℕ} → Some v ≡ words_in n b → after ≡ drop (9 * n) b → with_words n s k ≡ k v after
  words_said {v} w r = words_some n s v k (w ∙ ap (words_in n) e) ∙ ap (k v) (sym (r ∙ ap (drop (9 * n)) e))
