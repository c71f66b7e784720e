-- What is asked for done, or the line looked at.
use mathlib.Core.Path.{refl, sym, ap, ◌∙◌}
use Rattle.scenario_pd.proofs.Verbs.{done_or_looked, other_is}
use Rattle.scenario_pd.proofs.answer.Goals as goal

pub returns-in-Some : goal.returns-in-Some
returns-in-Some c =
    let a = c.args in
    let d = done_or_looked a.t.now a.store.now a.s.now in
    let v = sym c.is_verb.ensures ∙ c.if-is_verb.false in
    record {
      turns = rw (v, other_is a.t.now a.store.now a.s.now ∙ ap d (sym c.in-Some.ensures)) c.serve.ensures;
      statistics-after = rw v refl;
    }

pub returns-in_default : goal.returns-in_default
returns-in_default c =
    let a = c.args in
    let d = done_or_looked a.t.now a.store.now a.s.now in
    let v = sym c.is_verb.ensures ∙ c.if-is_verb.false in
    record {
      turns =
          rw (v, other_is a.t.now a.store.now a.s.now ∙ ap d (sym c.in_default.ensures))
          (record { words = c.answer.ensures; slots-after = refl; store-after = refl });
      statistics-after = rw v refl;
    }
