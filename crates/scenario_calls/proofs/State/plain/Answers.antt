-- By the verb; else one kind of line after another.
use mathlib.Core.Path.{sym, ◌∙◌}
use Rattle.scenario_calls.specs.Calls.{Turn, or_next, message_effect}
use Rattle.scenario_calls.specs.Calls.{publication_effect, plain_effect}
use Rattle.scenario_calls.specs.declared.State.{State}
use Rattle.scenario_calls.proofs.Calls.{found, then, in_words, by_verb, wire_stays, message_stays}
use Rattle.scenario_calls.proofs.State.plain.Goals as goal

pub returns-then-is_verb : goal.returns-then-is_verb
unfolding plain_effect
returns-then-is_verb c = in_words c.local.ensures (by_verb _ _ _ (sym c.is_verb.ensures ∙ c.if-is_verb.true))

pub returns-then-is_verb-2 : goal.returns-then-is_verb-2
unfolding plain_effect
returns-then-is_verb-2 c =
    in_words c.stats.ensures
    (by_verb _ _ _ (sym c.is_verb.ensures ∙ c.if-is_verb.false)
    ∙ by_verb _ _ _ (sym c.is_verb-2.ensures ∙ c.if-is_verb-2.true))

pub returns-then-is_some : goal.returns-then-is_some
unfolding plain_effect
returns-then-is_some c =
    let a = c.args in
    in_words
    (found c.wire.ensures (or_next (message_effect a.self.now a.s.now) (publication_effect a.self.now a.s.now))
    (sym c.is_some.ensures ∙ c.if-is_some.true))
    (by_verb _ _ _ (sym c.is_verb.ensures ∙ c.if-is_verb.false)
    ∙ by_verb _ _ _ (sym c.is_verb-2.ensures ∙ c.if-is_verb-2.false))

pub returns-then-is_some-2 : goal.returns-then-is_some-2
unfolding plain_effect
returns-then-is_some-2 c =
    let a = c.args in
    let f : State → Turn = λ y. or_next (message_effect y a.s.now) (publication_effect y a.s.now) in
    in_words
    (then c.wire.ensures (sym c.is_some.ensures ∙ c.if-is_some.false) f (wire_stays a.self.now a.s.now)
    (found c.message_data.ensures (publication_effect c.wire.new.self a.s.now)
    (sym c.is_some-2.ensures ∙ c.if-is_some-2.true)))
    (by_verb _ _ _ (sym c.is_verb.ensures ∙ c.if-is_verb.false)
    ∙ by_verb _ _ _ (sym c.is_verb-2.ensures ∙ c.if-is_verb-2.false))

pub returns : goal.returns
unfolding plain_effect
returns c =
    let a = c.args in
    let f : State → Turn = λ y. or_next (message_effect y a.s.now) (publication_effect y a.s.now) in
    in_words
    (then c.wire.ensures (sym c.is_some.ensures ∙ c.if-is_some.false) f (wire_stays a.self.now a.s.now)
    (then c.message_data.ensures (sym c.is_some-2.ensures ∙ c.if-is_some-2.false) (λ y. publication_effect y a.s.now)
    (message_stays c.wire.new.self a.s.now) c.publication.ensures))
    (by_verb _ _ _ (sym c.is_verb.ensures ∙ c.if-is_verb.false)
    ∙ by_verb _ _ _ (sym c.is_verb-2.ensures ∙ c.if-is_verb-2.false))
