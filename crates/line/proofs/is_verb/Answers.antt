-- What stands behind the verb is nothing, or begins with a space.
use Rattle.std.proofs.Common.{◌≡◌, ℕ, List, ◌<◌, length, sym, ap, ◌∙◌, rules}
use Rattle.line.proofs.Lines.{verb_end, verb-found, verb-other, verb-ended, verb-spaced}
use Rattle.line.proofs.is_verb.Goals as goal

pub returns-then-is_empty : goal.returns-then-is_empty
returns-then-is_empty c =
    let r : List ℕ = c.in-Some.rest.now in
    let h = c.in-Some.ensures.cases in
    let l : length r ≡ 0 = search rules in
    c.if-is_empty.true ∙ sym (verb-found c.args.s.now c.args.verb.now h.0 ∙ ap verb_end (sym h.1) ∙ verb-ended r l)

pub returns-else-is_empty : goal.returns-else-is_empty
returns-else-is_empty c =
    let r : List ℕ = c.in-Some.rest.now in
    let h = c.in-Some.ensures.cases in
    let l : 0 < length r = search rules in
    sym (verb-found c.args.s.now c.args.verb.now h.0 ∙ ap verb_end (sym h.1) ∙ verb-spaced r l)

pub returns-in-None : goal.returns-in-None
returns-in-None c = verb-other c.args.s.now c.args.verb.now c.in-None.ensures.cases
