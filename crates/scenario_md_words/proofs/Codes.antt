-- Codes one after the other.
-- Assumes nothing.
use Rattle.std.proofs.Common.{◌≡◌, sym, ℕ, zero, suc, ◌+◌, ◌<◌, List, [], ◌∷◌, ◌++◌, length, get_or, take, append_assoc, append-nil, add-one, arith, ℤ}
use Rattle.answer.specs.Answer.{signed}
use Rattle.scenario_md_words.specs.Words.{all_signed}

-- one more code
pub one-more : (cs : List ℤ) (i : ℕ) (d : ℤ) → i < length cs
    → all_signed (take (i + 1) cs) ≡ all_signed (take i cs) ++ signed (get_or cs i d)
one-more cs i d h = rw (add-one i) (go cs i h)
  where
    go : (xs : List ℤ) (j : ℕ) → j < length xs → all_signed (take (suc j) xs) ≡ all_signed (take j xs) ++ signed (get_or xs j d)
    go [] j k = absurd (omega arith)
    go (x ∷ xs) zero k = append-nil (signed x)
    go (x ∷ xs) (suc j) k = rw (go xs j (omega arith)) (sym (append_assoc (signed x) (all_signed (take j xs)) (signed (get_or xs j d))))
