-- The numbers read so far stand before those of what is left.
use Rattle.std.proofs.Common.{◌≡◌, ◌*◌, ◌-◌, length, take, drop}
use Rattle.line.specs.Read.{words_in}
use Rattle.line.proofs.Reading.{joined}
use Rattle.line.proofs.reader.Fields.words.Given as goal

abbrev pub invariant-loop-i : goal.invariant-loop-i
invariant-loop-i g l =
    (length l.words ≡ g.row.N)
    × (joined (take l.i l.words) (words_in (g.row.N - l.i) l.self) ≡ words_in g.row.N l.fn.self)
    × (l.self ≡ drop (9 * l.i) l.fn.self)
