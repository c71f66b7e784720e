-- Over a list of telegrams the statistics count that history, each number modulo 2^32.
-- Assumes nothing.
-- how many telegrams of a history pass a test
use Rattle.std.proofs.Common.{◌≡◌, ℕ, zero, suc, ◌+◌, ◌%◌, ◌^◌, ◌<◌, Bool, true, false, cond, ◌&&◌, eqb, List, [], ◌∷◌, length, get_or, set, sym, refl, ap, ◌∙◌, zero-add, arith, length-set, get_or-set_other, get_or-set_same, ne_eqb, eqb-true}
use lib.ListN.{get_or-replicate}
use borrow.Author.Tests.{eqb-false}
use Rattle.telegram.specs.declared.Family.{Family}
use Rattle.telegram.specs.declared.Family.TheVariants.{Pd, Md}
use Rattle.statistics.specs.declared.Counters.{Counters}
use Rattle.statistics.specs.declared.Statistics.{Statistics}
use Rattle.statistics.specs.Statistics.{next, counted, added, none_counted, no_statistics, Arrived, after_all}

abbrev pub many : (Arrived → Bool) → List Arrived → ℕ
many p [] = 0
many p (a ∷ more) = cond (p a) (suc (many p more)) (many p more)

abbrev pub same : Family → Family → Bool
same Pd Pd = true
same Pd Md = false
same Md Pd = false
same Md Md = true

-- the counters of a family
abbrev pub counters_of : Family → Statistics → Counters
counters_of Pd s = s.pd
counters_of Md s = s.md

apart : (f g : Family) (o : ℕ) (s : Statistics) → counters_of f (added g o s) ≡ cond (same f g) (counted o (counters_of f s)) (counters_of f s)
apart Pd Pd o s = refl
apart Pd Md o s = refl
apart Md Pd o s = refl
apart Md Md o s = refl

-- a number of the counters, which counts the outcomes that pass a test; what is known of the counters meanwhile
module _ (number : Counters → ℕ) (q : ℕ → Bool) (Good : Counters → Type 0)
    (keeps : (o : ℕ) (c : Counters) → Good c → Good (counted o c))
    (grows : (o : ℕ) (c : Counters) → Good c → number (counted o c) ≡ cond (q o) (next (number c)) (number c)) (f : Family) where
  abbrev counts : Arrived → Bool
  counts a = same f a.family && q a.outcome

  kept : (b : Bool) (o : ℕ) (c : Counters) → Good c → Good (cond b (counted o c) c)
  kept true o c g = keeps o c g
  kept false o c g = g

  grown : (b : Bool) (o : ℕ) (c : Counters) → Good c → number (cond b (counted o c) c) ≡ cond (b && q o) (next (number c)) (number c)
  grown true o c g = grows o c g
  grown false o c g = refl

  below : (b : Bool) (n : ℕ) → n < 2 ^ 32 → cond b (next n) n < 2 ^ 32
  below true n h = omega arith
  below false n h = h

  one_more : (b : Bool) (n k : ℕ) → (cond b (next n) n + k) % 2 ^ 32 ≡ (n + cond b (suc k) k) % 2 ^ 32
  one_more true n k = omega arith
  one_more false n k = refl

  pub from : (telegrams : List Arrived) (s : Statistics) → Good (counters_of f s) → number (counters_of f s) < 2 ^ 32
      → number (counters_of f (after_all telegrams s)) ≡ (number (counters_of f s) + many counts telegrams) % 2 ^ 32
  from [] s g h = omega arith
  from (a ∷ more) s g h =
      let t : Statistics = added a.family a.outcome s in
      let e : counters_of f t ≡ cond (same f a.family) (counted a.outcome (counters_of f s)) (counters_of f s) = apart f a.family a.outcome s in
      let n : number (counters_of f t) ≡ cond (counts a) (next (number (counters_of f s))) (number (counters_of f s)) = ap number e ∙ grown (same f a.family) a.outcome (counters_of f s) g in
      from more t (rw e (kept (same f a.family) a.outcome (counters_of f s) g)) (rw n (below (counts a) (number (counters_of f s)) h))
      ∙ ap (λ (m : ℕ). (m + many counts more) % 2 ^ 32) n
      ∙ one_more (counts a) (number (counters_of f s)) (many counts more)

-- over a list of calls on tables, each of which adds to the statistics: they are those of a history that counts, call by call, what each adds
module _ {Call State : Type 0} (on : Call → State → State) (adds : Call → State → Statistics → Statistics) (over : List Call → State → Statistics → Statistics) (history : List Call → State → List Arrived)
    (over_none : (t : State) (s : Statistics) → over [] t s ≡ s)
    (over-call : (c : Call) (calls : List Call) (t : State) (s : Statistics) → over (c ∷ calls) t s ≡ over calls (on c t) (adds c t s))
    (none : (t : State) (s : Statistics) → after_all (history [] t) s ≡ s)
    (call : (c : Call) (calls : List Call) (t : State) (s : Statistics) → after_all (history (c ∷ calls) t) s ≡ after_all (history calls (on c t)) (adds c t s)) where
  pub of-history : (calls : List Call) (t : State) (s : Statistics) → over calls t s ≡ after_all (history calls t) s
  of-history [] t s = over_none t s ∙ sym (none t s)
  of-history (c ∷ calls) t s = over-call c calls t s ∙ of-history calls (on c t) (adds c t s) ∙ sym (call c calls t s)

-- what is counted from nothing on
zeros : (f : Family) → counters_of f no_statistics ≡ none_counted
zeros Pd = refl
zeros Md = refl

module _ (number : Counters → ℕ) (q : ℕ → Bool) (Good : Counters → Type 0)
    (keeps : (o : ℕ) (c : Counters) → Good c → Good (counted o c))
    (grows : (o : ℕ) (c : Counters) → Good c → number (counted o c) ≡ cond (q o) (next (number c)) (number c))
    (good : Good none_counted) (zero-first : number none_counted ≡ 0) (f : Family) where
  from-none : (telegrams : List Arrived)
      → number (counters_of f (after_all telegrams no_statistics)) ≡ many (λ a. same f a.family && q a.outcome) telegrams % 2 ^ 32
  from-none telegrams =
      let z : number (counters_of f no_statistics) ≡ 0 = ap number (zeros f) ∙ zero-first in
      from number q Good keeps grows f telegrams no_statistics (rw (zeros f) good) (omega arith)
      ∙ ap (λ (n : ℕ). (n + many (λ a. same f a.family && q a.outcome) telegrams) % 2 ^ 32) z
      ∙ ap (λ (n : ℕ). n % 2 ^ 32) (zero-add (many (λ a. same f a.family && q a.outcome) telegrams))

always : Counters → Type 0
always c = Unit {0}

received-grows : (o : ℕ) (c : Counters) → always c → (counted o c).received ≡ next c.received
received-grows zero c g = refl
received-grows (suc r) c g = refl

delivered-grows : (o : ℕ) (c : Counters) → always c → (counted o c).delivered ≡ cond (eqb o 0) (next c.delivered) c.delivered
delivered-grows zero c g = refl
delivered-grows (suc r) c g = rw (ne_eqb (suc r) 0 (λ e. omega arith)) refl

-- there is a counter for each refusal number
Forty : Counters → Type 0
Forty c = length c.refused ≡ 40

forty : (o : ℕ) (c : Counters) → Forty c → Forty (counted o c)
unfolding Forty
forty zero c g = g
forty (suc r) c g = length-set c.refused (suc r) (next (get_or c.refused (suc r) 0)) ∙ g

refused-grows : (n : ℕ) → 0 < n → n < 40 → (o : ℕ) (c : Counters) → Forty c → get_or (counted o c).refused n 0 ≡ cond (eqb o n) (next (get_or c.refused n 0)) (get_or c.refused n 0)
unfolding Forty
refused-grows n p h zero c g = rw (ne_eqb 0 n (λ e. omega arith)) refl
refused-grows n p h (suc r) c g = go (eqb (suc r) n) refl
  where
    go : (b : Bool) → eqb (suc r) n ≡ b
        → get_or (set c.refused (suc r) (next (get_or c.refused (suc r) 0))) n 0 ≡ cond b (next (get_or c.refused n 0)) (get_or c.refused n 0)
    go true e = rw (eqb-true (suc r) n e) (get_or-set_same c.refused n (next (get_or c.refused n 0)) 0 (omega arith))
    go false e = get_or-set_other c.refused (suc r) n (next (get_or c.refused (suc r) 0)) 0 (λ q. eqb-false (suc r) n e (sym q))

-- received counts the telegrams of the family
pub received-counts : (f : Family) (telegrams : List Arrived)
    → (counters_of f (after_all telegrams no_statistics)).received ≡ many (λ a. same f a.family && true) telegrams % 2 ^ 32
unfolding always
received-counts = from-none (λ c. c.received) (λ o. true) always (λ o c g. tt) received-grows tt refl

-- delivered those that were delivered
pub delivered-counts : (f : Family) (telegrams : List Arrived)
    → (counters_of f (after_all telegrams no_statistics)).delivered ≡ many (λ a. same f a.family && eqb a.outcome 0) telegrams % 2 ^ 32
unfolding always
delivered-counts = from-none (λ c. c.delivered) (λ o. eqb o 0) always (λ o c g. tt) delivered-grows tt refl

-- each refusal number those that it refused
pub refused-counts : (n : ℕ) → 0 < n → n < 40 → (f : Family) (telegrams : List Arrived)
    → get_or (counters_of f (after_all telegrams no_statistics)).refused n 0 ≡ many (λ a. same f a.family && eqb a.outcome n) telegrams % 2 ^ 32
unfolding Forty
refused-counts n p h = from-none (λ c. get_or c.refused n 0) (λ o. eqb o n) Forty forty (refused-grows n p h) refl (get_or-replicate 40 n 0 0 h)
