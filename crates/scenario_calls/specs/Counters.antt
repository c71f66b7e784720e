-- The statistics in words.
use Rattle.std.specs.Prelude.{ℕ, List, [], ◌∷◌, ◌++◌}
use Rattle.octets.specs.Octets.{part}
use Rattle.answer.specs.Answer.{ascii, spaced, decimal}
use Rattle.statistics.specs.declared.Counters.{Counters}
use Rattle.statistics.specs.declared.Statistics.{Statistics}

-- numbers in decimal one after the other
abbrev pub decimals : List ℕ → List (List ℕ)
decimals [] = []
decimals (x ∷ xs) = decimal x ++ decimals xs

-- a family's RECEIVED DELIVERED R2 R3 R4 R5 R6 R7 R8
abbrev pub counters_words : List ℕ → Counters → List (List ℕ)
counters_words family c =
    spaced family ++ decimal c.received ++ decimal c.delivered ++ decimals (part 7 2 c.refused)

-- `pd` and its counters, R9, then `md` and its, R17 R18 R19 R20
abbrev pub statistics_words : Statistics → List (List ℕ)
statistics_words s =
    counters_words (ascii "pd") s.pd
    ++ decimals (part 1 9 s.pd.refused)
    ++ counters_words (ascii "md") s.md
    ++ decimals (part 4 17 s.md.refused)
