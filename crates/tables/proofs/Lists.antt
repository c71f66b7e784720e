-- The rules of a table commute with a map of its slots: `any`, `count`, `lowest`, `set`, `grant`, `at_slot`.
use mathlib.Core.Path.{◌≡◌, refl, sym, ap, ap₂, ◌∙◌}
use mathlib.Core.Logic.{◌≢◌}
use mathlib.Core.Bool.{Bool, true, false, cond, ◌||◌, false≢true}
use mathlib.Core.List.{List, [], ◌∷◌, map}
use mathlib.Core.Option.{Option, none, some}
use Prim.Native.Nat.{ℕ, zero, suc, ◌<◌, suc-le-suc}
use native.Mathlib.Nat.{zero-lt-suc, not-suc-le-zero, le_of_suc-le-suc, suc-ne-zero, suc_inj}
use native.Mathlib.Omega.{arith}
use lib.Dec.{eqb}
use Rattle.std.proofs.lemmas.Bool.{eqb-false}
use Rattle.std.proofs.lemmas.List.{map-set}
use lib.ListN.{length, get_or, set, replicate, get_or-map}
use lib.Seq.{get_or-set_other}
use Rattle.tables.specs.Lists.{next, count, any, lowest, grant, at_slot}
use Rattle.tables.specs.Trace.{Outcome}

module _ {X Y : Type 0} (f : Y → X) where
  pub set-map : (ys : List Y) (k : ℕ) (y : Y) → set (map f ys) k (f y) ≡ map f (set ys k y)
  set-map ys k y = sym (map-set f ys k y)

module _ {A X Y : Type 0} (f : Y → X) where
  abbrev pub mapped : Outcome A (List Y) → Outcome A (List X)
  mapped o = record { answer = o.answer; after = map f o.after }

  pub grant-map : (early : Option A) (k : Option ℕ) (full : A) (given : ℕ → A) (y : Y) (ys : List Y)
      → grant early k full given (f y) (map f ys) ≡ mapped (grant early k full given y ys)
  unfolding grant
  grant-map (some a) k full given y ys = refl
  grant-map none none full given y ys = refl
  grant-map none (some k) full given y ys = λ i. record { answer = given k; after = set-map f ys k y i }

-- where the two agree at each slot of this table; d is what stands at numbers behind the last
module _ {X Y : Type 0} (f : Y → X) (d : Y) where
  module _ (p : X → Bool) (p' : Y → Bool) where
    pub any-each : (ys : List Y) → ((j : ℕ) → p (f (get_or ys j d)) ≡ p' (get_or ys j d)) → any p (map f ys) ≡ any p' ys
    any-each [] same = refl
    any-each (y ∷ ys) same = ap₂ ◌||◌ (same zero) (any-each ys (λ j. same (suc j)))

    pub count-each : (ys : List Y) → ((j : ℕ) → p (f (get_or ys j d)) ≡ p' (get_or ys j d))
        → count p (map f ys) ≡ count p' ys
    count-each [] same = refl
    count-each (y ∷ ys) same = rw (same zero, count-each ys (λ j. same (suc j))) refl

    pub lowest-each : (ys : List Y) → ((j : ℕ) → p (f (get_or ys j d)) ≡ p' (get_or ys j d))
        → lowest p (map f ys) ≡ lowest p' ys
    lowest-each [] same = refl
    lowest-each (y ∷ ys) same = rw (same zero, lowest-each ys (λ j. same (suc j))) refl

  pub map_at : {Z : Type 0} (g : X → Z) (h : Y → Z) (ys : List Y)
      → ((j : ℕ) → g (f (get_or ys j d)) ≡ h (get_or ys j d)) → map g (map f ys) ≡ map h ys
  map_at g h [] same = refl
  map_at g h (y ∷ ys) same = ap₂ ◌∷◌ (same zero) (map_at g h ys (λ j. same (suc j)))

  pub map_each : (g : X → X) (g' : Y → Y) (ys : List Y)
      → ((j : ℕ) → g (f (get_or ys j d)) ≡ f (g' (get_or ys j d))) → map g (map f ys) ≡ map f (map g' ys)
  map_each g g' [] same = refl
  map_each g g' (y ∷ ys) same = ap₂ ◌∷◌ (same zero) (map_each g g' ys (λ j. same (suc j)))

  pub at_slot-at : {A : Type 0} (u : X → Outcome A X) (u' : Y → Outcome A Y) (k : ℕ) (ys : List Y)
      → u (f (get_or ys k d)) ≡ record { answer = (u' (get_or ys k d)).answer; after = f (u' (get_or ys k d)).after }
      → at_slot (f d) u k (map f ys) ≡ mapped f (at_slot d u' k ys)
  unfolding at_slot
  at_slot-at u u' k ys same = rw (get_or-map f ys k d, same, set-map f ys k (u' (get_or ys k d)).after) refl

-- ---- slots that are all alike

pub map-replicate : {X Y : Type 0} (f : Y → X) (n : ℕ) (y : Y) → map f (replicate n y) ≡ replicate n (f y)
map-replicate f zero y = refl
map-replicate f (suc n) y = ap (λ l. f y ∷ l) (map-replicate f n y)

pub get_d-alike : {X : Type 0} (n j : ℕ) (d : X) → get_or (replicate n d) j d ≡ d
get_d-alike zero j d = refl
get_d-alike (suc n) zero d = refl
get_d-alike (suc n) (suc j) d = get_d-alike n j d

-- ---- searches

-- the lowest that passes is one of them, and does pass
pub lowest-is : {X : Type 0} (p : X → Bool) (d : X) (xs : List X) (j : ℕ) → lowest p xs ≡ some j
    → (j < length xs) × (p (get_or xs j d) ≡ true)
lowest-is p d [] j e = grind arith
lowest-is p d (x ∷ xs) j e = go (λ i. lowest-is p d xs i) (p x) refl e
  where
    further : ((i : ℕ) → lowest p xs ≡ some i → (i < length xs) × (p (get_or xs i d) ≡ true))
        → (o : Option ℕ) → lowest p xs ≡ o → next o ≡ some j → (j < suc (length xs)) × (p (get_or (x ∷ xs) j d) ≡ true)
    further ih none l e' = grind arith
    further ih (some i) l e' = let z : j ≡ suc i = cc in rw z (suc-le-suc (ih i l).0, (ih i l).1)

    go : ((i : ℕ) → lowest p xs ≡ some i → (i < length xs) × (p (get_or xs i d) ≡ true))
        → (b : Bool) → p x ≡ b → cond b (some zero) (next (lowest p xs)) ≡ some j
        → (j < suc (length xs)) × (p (get_or (x ∷ xs) j d) ≡ true)
    go ih true h e' = let z : j ≡ zero = cc in rw z (zero-lt-suc (length xs), h)
    go ih false h e' = further ih (lowest p xs) refl e'

-- a grant leaves a slot that is held as it was
pub grant-leaves : {A X : Type 0} (is_free : X → Bool) (d : X) (early : Option A) (full : A) (given : ℕ → A) (new : X)
    (xs : List X) (k : ℕ)
    → is_free (get_or xs k d) ≡ false
    → (o : Option ℕ) → lowest is_free xs ≡ o → get_or (grant early o full given new xs).after k d ≡ get_or xs k d
unfolding grant
grant-leaves is_free d (some a) full given new xs k h o e = refl
grant-leaves is_free d none full given new xs k h none e = refl
grant-leaves is_free d none full given new xs k h (some j) e =
    get_or-set_other xs j k new d (λ p. false≢true (sym h ∙ rw p (lowest-is is_free d xs j e).1))

-- where one is set, a fact of all but the new one stays
pub fact-set : {X : Type 0} (P : X → Type 0) (d : X) (xs : List X) (j i : ℕ) (y : X) → P (get_or xs i d) → P y
    → P (get_or (set xs j y) i d)
fact-set P d [] j i y h n = h
fact-set P d (x ∷ xs) zero zero y h n = n
fact-set P d (x ∷ xs) zero (suc i) y h n = h
fact-set P d (x ∷ xs) (suc j) zero y h n = h
fact-set P d (x ∷ xs) (suc j) (suc i) y h n = fact-set P d xs j i y h n

pub any_false : {X : Type 0} (p : X → Bool) (d : X) (xs : List X) (k : ℕ) → any p xs ≡ false → p d ≡ false
    → p (get_or xs k d) ≡ false
any_false p d [] k e h = h
any_false p d (x ∷ xs) k e h = go (p x) refl k (λ i e'. any_false p d xs i e' h) e
  where
    go : (b : Bool) → p x ≡ b → (k : ℕ) → ((i : ℕ) → any p xs ≡ false → p (get_or xs i d) ≡ false)
        → b || any p xs ≡ false → p (get_or (x ∷ xs) k d) ≡ false
    go true n k ih e' = absurd (false≢true (sym e'))
    go false n zero ih e' = n
    go false n (suc k) ih e' = ih k e'

pub none_pass : {X : Type 0} (p : X → Bool) (d : X) (xs : List X) → ((j : ℕ) → p (get_or xs j d) ≡ false)
    → lowest p xs ≡ none
none_pass p d [] h = refl
none_pass p d (x ∷ xs) h = rw (h zero, none_pass p d xs (λ j. h (suc j))) refl

-- where there is no lowest, none passes
pub lowest-none : {X : Type 0} (p : X → Bool) (xs : List X) → lowest p xs ≡ none → any p xs ≡ false
lowest-none p [] e = refl
lowest-none p (x ∷ xs) e = go (lowest-none p xs) (p x) (lowest p xs) refl e
  where
    go : (lowest p xs ≡ none → any p xs ≡ false) → (b : Bool) (o : Option ℕ) → lowest p xs ≡ o
        → cond b (some zero) (next o) ≡ none → b || any p xs ≡ false
    go ih true o l q = grind arith
    go ih false none l q = ih l
    go ih false (some j) l q = grind arith

-- where only slot k can pass, the lowest that passes is slot k or none
pub lowest-only : {X : Type 0} (p : X → Bool) (d : X) (xs : List X) (k : ℕ) → k < length xs
    → ((j : ℕ) → j ≢ k → p (get_or xs j d) ≡ false)
    → lowest p xs ≡ cond (p (get_or xs k d)) (some k) none
lowest-only p d [] k lt h = absurd (not-suc-le-zero lt)
lowest-only p d (x ∷ xs) zero lt h =
    ap (λ o. cond (p x) (some zero) (next o)) (none_pass p d xs (λ j. h (suc j) (λ e. suc-ne-zero j e)))
lowest-only p d (x ∷ xs) (suc k) lt h =
    rw (
      h zero (λ e. suc-ne-zero k (sym e)),
      lowest-only p d xs k (le_of_suc-le-suc lt)
          (λ j n. h (suc j) (λ e. n (suc_inj e))),
    ) (next-cond (p (get_or xs k d)))
  where
    next-cond : (b : Bool) → next (cond b (some k) none) ≡ cond b (some (suc k)) none
    next-cond true = refl
    next-cond false = refl

pub eqb-other : (j k : ℕ) → eqb j k ≡ false → k ≢ j
eqb-other j k e p = eqb-false j k e (sym p)
