-- Counters put one after the other.
-- Assumes nothing.
use Rattle.std.proofs.Common.{◌≡◌, sym, ℕ, zero, suc, ◌+◌, ◌<◌, List, [], ◌∷◌, ◌++◌, length, get_or, take}
use Rattle.std.proofs.Common.{append_assoc, append-nil, add-one, arith}
use Rattle.answer.specs.Answer.{decimal}
use Rattle.scenario_calls.specs.Counters.{decimals}

-- one more number
pub one-more : (ns : List ℕ) (i : ℕ) → i < length ns →
    decimals (take (i + 1) ns) ≡ decimals (take i ns) ++ decimal (get_or ns i 0)
one-more ns i h = rw (add-one i) (go ns i h)
  where
    go : (xs : List ℕ) (j : ℕ) → j < length xs →
        decimals (take (suc j) xs) ≡ decimals (take j xs) ++ decimal (get_or xs j 0)
    go [] j k = absurd (omega arith)
    go (x ∷ xs) zero k = append-nil (decimal x)
    go (x ∷ xs) (suc j) k =
        rw (go xs j (omega arith))
        (sym (append_assoc (decimal x) (decimals (take j xs)) (decimal (get_or xs j 0))))
