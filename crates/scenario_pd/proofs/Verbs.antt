-- A line has one verb; what a line asks for is what it does, and a line that asks for nothing is looked at.
-- Assumes nothing.
use mathlib.Core.Path.{◌≡◌, refl, sym, ap, ◌∙◌}
use mathlib.Core.Bool.{Bool, true, false, cond, ◌&&◌}
use mathlib.Core.List.{List, [], ◌∷◌}
use mathlib.Core.Option.{Option, none, some}
use Prim.Native.Nat.{ℕ}
use borrow.Author.Tests.{eqb-true}
use lib.Dec.{eqb}
use Rattle.std.proofs.lemmas.Bool.{and_parts}
use Rattle.line.specs.Line.{verb_is}
use Rattle.answer.specs.Answer.{ascii}
use Rattle.subscription_table.specs.Table.{Call}
use Rattle.lent.specs.declared.Slots.{Slots}
use Rattle.scenario_pd_look.specs.Look.{look_answer}
use Rattle.scenario_pd.specs.Effect.{Effect, saying, calling}
use Rattle.scenario_pd.specs.Lines.{Wanted, called, asked_of, doing, done_by, sub_call, unsub_call, check_call}
use Rattle.scenario_pd.specs.Lines.{lend_asked, damage_asked, lending, damaging, own_effect, other_effect}

-- a line may have both verbs
abbrev both : List ℕ → List ℕ → Bool
both [] [] = true
both [] (y ∷ v) = eqb 32 y
both (x ∷ u) [] = eqb x 32
both (x ∷ u) (y ∷ v) = eqb x y && both u v

one_verb : (s u v : List ℕ) → both u v ≡ false → verb_is s u ≡ true → verb_is s v ≡ false
one_verb [] [] [] a e = absurd (cc)
one_verb [] [] (y ∷ v) a e = refl
one_verb [] (x ∷ u) v a e = absurd (cc)
one_verb (z ∷ s) [] [] a e = absurd (cc)
one_verb (z ∷ s) [] (y ∷ v) a e = rw (eqb-true z 32 e) (ap (λ (b : Bool). b && verb_is s v) a)
one_verb (z ∷ s) (x ∷ u) [] a e =
    ap (λ (n : ℕ). eqb n 32) (eqb-true z x (and_parts (eqb z x) (verb_is s u) e).0) ∙ a
one_verb (z ∷ s) (x ∷ u) (y ∷ v) a e =
    ap (λ (n : ℕ). eqb n y && verb_is s v) (eqb-true z x (and_parts (eqb z x) (verb_is s u) e).0)
    ∙ go (eqb x y) a (λ d. one_verb s u v d (and_parts (eqb z x) (verb_is s u) e).1)
  where
    go : (b : Bool) → (b && both u v) ≡ false → (both u v ≡ false → verb_is s v ≡ false) → (b && verb_is s v) ≡ false
    go true d k = k d
    go false d k = refl

module _ (t : Slots) (store s : List ℕ) where
  -- what is asked for done, or the line looked at
  abbrev pub done_or_looked : Option Wanted → Effect
  done_or_looked none = saying (look_answer t store s) t store
  done_or_looked (some w) = done_by w t store

  called_is : (x : Option Call) → calling x t store ≡ doing (called x) t store
  unfolding calling
  called_is none = refl
  called_is (some c) = refl

  module _ (verb : List ℕ) (a : both verb (ascii "read") ≡ false) (b : both verb (ascii "slot") ≡ false)
      (c : both verb (ascii "part") ≡ false) where
    -- a line of a verb that is none of those looks at nothing
    not_looked : verb_is s verb ≡ true → look_answer t store s ≡ none
    unfolding look_answer
    not_looked e =
        let read = one_verb s verb (ascii "read") a e in
        let slot = one_verb s verb (ascii "slot") b e in
        rw (read, slot, one_verb s verb (ascii "part") c e) refl

    -- one verb more
    by_verb : (x y : Option Wanted) {e f : Effect} → e ≡ doing x t store → f ≡ done_or_looked y
        → cond (verb_is s verb) e f ≡ done_or_looked (cond (verb_is s verb) x y)
    by_verb x y {e} {f} p q = go (verb_is s verb) not_looked
      where
        met : look_answer t store s ≡ none → (z : Option Wanted) → doing z t store ≡ done_or_looked z
        met l none = ap (λ (ws : Option (List (List ℕ))). saying ws t store) (sym l)
        met l (some w) = refl

        go : (d : Bool) → (d ≡ true → look_answer t store s ≡ none) → cond d e f ≡ done_or_looked (cond d x y)
        go true l = p ∙ met (l refl) x
        go false l = q

  own_is : own_effect s t store
      ≡ done_or_looked
      (cond (verb_is s (ascii "lend")) (lend_asked s) (cond (verb_is s (ascii "damage")) (damage_asked s) none))
  unfolding own_effect lending damaging
  own_is =
      by_verb (ascii "lend") refl refl refl _ _ refl (by_verb (ascii "damage") refl refl refl _ _ refl refl)

  pub other_is : other_effect s t store ≡ done_or_looked (asked_of s)
  unfolding other_effect asked_of
  other_is =
      by_verb (ascii "sub") refl refl refl _ _ (called_is (sub_call s))
      (by_verb (ascii "unsub") refl refl refl _ _ (called_is (unsub_call s))
      (by_verb (ascii "check") refl refl refl _ _ (called_is (check_call s)) own_is))
