-- What a line's answer leaves.
-- Assumes nothing.
use Rattle.std.proofs.Common.{◌≡◌, refl, List, ℕ}
use Rattle.std.specs.Prelude.{None, Option as Given}
use mathlib.Core.Option.{Option, none}
use Rattle.answer.specs.declared.Room.{Room}
use Rattle.answer.proofs.Said.{not_answered}
use Rattle.statistics.specs.declared.Statistics.{Statistics}
use Rattle.scenario_md.specs.Lines.{Asked}
use Rattle.scenario_md.specs.Served.{Serves, Answers}

module _ {q : Option Asked} {t t' : List ℕ} {before after : Room} {r : Given (Unit {0})} where
  -- the same line in other words
  pub answers_as : {q' : Option Asked} {n n' : Statistics} → Answers q t n before r t' n' after → q' ≡ q →
      Answers q' t n before r t' n' after
  answers_as x e = rw e x

  -- a user's line, which counts nothing
  pub uncounted : (n : Statistics) → Serves q t before r t' after → Answers q t n before r t' n after
  uncounted n x = record { words = x.words; means = x.means; leaves = x.leaves; statistics = x.statistics n }

-- a line that asks nothing
pub idle : {t : List ℕ} {n : Statistics} {o : Room} {r : Given (Unit {0})} {q : Option Asked} → r ≡ None → q ≡ none →
    Answers q t n o r t n o
idle {o = o} e h = rw (e, h) (record { words = not_answered refl o; means = refl; leaves = refl; statistics = refl })
