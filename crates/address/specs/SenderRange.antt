-- The sender range of a filter.
use Rattle.std.specs.Prelude.{ℕ, Bool, cond, not, ◌&&◌, ◌||◌, eqb, leb, ltb}
use Rattle.address.specs.declared.SenderRange.{SenderRange}

-- range end not 0 and below its start
abbrev pub reversed : SenderRange → Bool
reversed f = not (eqb f.end 0) && ltb f.end f.start

-- both ends 0: any; end 0: only the start; else start to end
abbrev pub admits : SenderRange → ℕ → Bool
admits f sender =
    cond (eqb f.end 0) (eqb f.start 0 || eqb f.start sender) (leb f.start sender && leb sender f.end)

-- equal in every field, as written
abbrev pub same : SenderRange → SenderRange → Bool
same f g = eqb f.start g.start && eqb f.end g.end
