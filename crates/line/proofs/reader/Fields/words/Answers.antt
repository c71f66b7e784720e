-- Where a number is missing there are none; each that was read stands behind those before.
use Rattle.std.proofs.Common.{◌≡◌, ℕ, ◌+◌, ◌*◌, ◌-◌, List, [], take, drop, Some, None, take_all, ap, ap₂, ◌∙◌, sym, arith, rules}
use lib.Seq.{drop-drop}
use Rattle.std.proofs.lemmas.List.{take_more_set}
use Rattle.line.specs.Read.{with_first, words_in}
use Rattle.line.proofs.Reading.{joined, joined_end, joined_none, joined_all, read_none, read_some, words_none, words_more}
use Rattle.line.proofs.reader.Fields.words.Goals as goal

pub returns-in_err-words-clause-words : goal.returns-in_err-words-clause-words
returns-in_err-words-clause-words g c =
    let i : ℕ = c.loop-i.i in
    let xs : List ℕ = take i c.loop-i.words in
    let s : List ℕ = c.loop-i.self in
    let m : words_in (g.row.N - i) s ≡ None = words_none g.row.N i s (omega arith) (read_none c.in_err-words.ensures) in
    c.from_residual.ensures ∙ sym (joined_none xs) ∙ ap (joined xs) (sym m) ∙ c.loop-i.invariant.1

pub loop-i-preserved : goal.loop-i-preserved
loop-i-preserved g c =
    let n : ℕ = g.row.N in
    let i : ℕ = c.loop-i.i in
    let ws : List ℕ = c.loop-i.words in
    let s : List ℕ = c.loop-i.self in
    let x : ℕ = c.in_ok-words.field-0 in
    let r = read_some c.in_ok-words.ensures in
    let m : words_in (n - i) s ≡ with_first x (words_in (n - (i + 1)) c.word.new.self) =
    words_more n i s (omega arith) r.0 ∙ sym (ap₂ (λ (a : ℕ) (b : List ℕ). with_first a (words_in (n - (i + 1)) b)) r.1 r.2) in
    let p : 9 * i + 9 ≡ 9 * (i + 1) = omega arith in (
      search rules,
      ap (λ (xs : List ℕ). joined xs (words_in (n - (i + 1)) c.word.new.self)) (take_more_set ws i x (omega arith))
          ∙ joined_end (take i ws) x (words_in (n - (i + 1)) c.word.new.self)
          ∙ ap (joined (take i ws)) (sym m)
          ∙ c.loop-i.invariant.1,
      r.2 ∙ ap (drop 9) c.loop-i.invariant.2 ∙ drop-drop 9 (9 * i) c.args.self.now ∙ ap (λ (k : ℕ). drop k c.args.self.now) p,
    )

pub returns-clause-words : goal.returns-clause-words
returns-clause-words g c =
    let n : ℕ = g.row.N in
    let i : ℕ = c.loop-i.i in
    let ws : List ℕ = c.loop-i.words in
    let e : n - i ≡ 0 = omega arith in
    let t : take i ws ≡ ws = take_all i ws (omega arith) in
    sym (joined_all ws) ∙ ap (λ (xs : List ℕ). joined xs (Some [])) (sym t)
    ∙ ap (λ (k : ℕ). joined (take i ws) (words_in k c.loop-i.self)) (sym e)
    ∙ c.loop-i.invariant.1
