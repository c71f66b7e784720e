-- From one form to the other and back: the same octets, and as many.
-- Assumes nothing.
use Rattle.std.specs.Prelude.{Option, Some, None, Result, Ok, Err}
use mathlib.Core.Path.{◌≡◌, refl, sym, ap, ap₂, ◌∙◌, subst}
use mathlib.Core.List.{List, [], ◌∷◌, ◌++◌, append_assoc, append-nil, reverse, reverse-reverse}
use mathlib.Core.Bool.{Bool, true, false, cond, ◌&&◌, ◌||◌, true≢false}
use Prim.Native.Nat.{ℕ, zero, suc, ◌+◌, ◌≤◌}
use native.Mathlib.Nat.{add-zero}
use native.Mathlib.Omega.{arith}
use borrow.Author.Tests.{le-ltb, ltb-false, eqb-true}
use lib.Dec.{eqb, ltb}
use lib.ListN.{length, take, drop, length-append, length-reverse, take-append-drop}
use lib.Seq.{take_at, drop_at, length-take-le}
use Rattle.refusal.specs.declared.Refusal.{Refusal}
use Rattle.refusal.specs.declared.Refusal.TheVariants as refusal
use Rattle.scalars.specs.Scalars.{parts_of, size}
use Rattle.dataset.specs.Descriptions.{Element, look_up}
use Rattle.dataset.specs.Walk.{Walked, stopped, walked, behind, then, times, turned, counts, number_of, count_behind}
use Rattle.dataset.specs.Walk.{with_items, items_of, walk_of, through_found, nested_of, whole_of}
use Rattle.dataset.specs.declared.Form.{Form}
use Rattle.dataset.specs.declared.Form.TheVariants.{Wire, Host}
use Rattle.dataset.proofs.Walks.{Even, even-whole}

-- the form that a walk writes
abbrev pub other : Form → Form
other Wire = Host
other Host = Wire

-- a walk over d left these octets and converted those: g turns them back, whatever stands behind them
record Back (g : List ℕ → Walked) (d left done : List ℕ) : Type 0 where
  front : List ℕ
  splits : d ≡ front ++ left
  back : (rest : List ℕ) → g (done ++ rest) ≡ walked rest front

-- g turns back whatever f converts
Undoes : (List ℕ → Walked) → (List ℕ → Walked) → Type 0
Undoes f g = (d left done : List ℕ) → f d ≡ walked left done → Back g d left done

-- two walks, of which the second began where the first ended
record Split (w : Walked) (f : List ℕ → Walked) (left done : List ℕ) : Type 0 where
  l : List ℕ
  a : List ℕ
  b : List ℕ
  first : w ≡ walked l a
  second : f l ≡ walked left b
  joined : a ++ b ≡ done

split : (w : Walked) (f : List ℕ → Walked) (left done : List ℕ) → then w f ≡ walked left done → Split w f left done
split w f left done e = grind arith

nothing : (g : List ℕ → Walked) (d left done : List ℕ) → ((rest : List ℕ) → g rest ≡ walked rest [])
    → walked d [] ≡ walked left done → Back g d left done
nothing g d left done h e = grind arith

-- g turns back the first walk and then, by k, the second
both : (g₁ k g : List ℕ → Walked) (d left done : List ℕ) {w : Walked} {f : List ℕ → Walked} (s : Split w f left done)
    → Back g₁ d s.l s.a → Back k s.l left s.b
    → ((rest : List ℕ) → g (s.a ++ rest) ≡ then (g₁ (s.a ++ rest)) k) → Back g d left done
both g₁ k g d left done s p q h =
    record {
      front = p.front ++ q.front;
      splits = p.splits ∙ ap (λ (l : List ℕ). p.front ++ l) q.splits ∙ sym (append_assoc p.front q.front left);
      back =
          λ rest.
          ap (λ (l : List ℕ). g (l ++ rest)) (sym s.joined)
          ∙ ap g (append_assoc s.a s.b rest)
          ∙ h (s.b ++ rest)
          ∙ ap (λ (w : Walked). then w k) (p.back (s.b ++ rest))
          ∙ ap (behind p.front) (q.back rest);
    }

-- one part of k octets, and what stands behind it
part-back : (k : ℕ) (ks d left b : List ℕ) → k ≤ length d → Back (turned ks) (drop k d) left b
    → Back (turned (k ∷ ks)) d left (reverse (take k d) ++ b)
part-back k ks d left b h q =
    let r : List ℕ = reverse (take k d) in
    let long : length r ≡ k = length-reverse (take k d) ∙ length-take-le k d h in
    record {
      front = take k d ++ q.front;
      splits = sym (take-append-drop k d) ∙ ap (λ (l : List ℕ). take k d ++ l) q.splits
          ∙ sym (append_assoc (take k d) q.front left);
      back =
          λ rest.
          let x : List ℕ = r ++ (b ++ rest) in
          let enough : ltb (length x) k ≡ false = le-ltb (length x) k (omega (arith, length-append r (b ++ rest))) in
          ap (turned (k ∷ ks)) (append_assoc r b rest)
          ∙ ap (λ (t : Bool). cond t (stopped refusal.DataLength) (behind (reverse (take k x)) (turned ks (drop k x))))
          enough
          ∙ ap₂ (λ (m n : List ℕ). behind (reverse m) (turned ks n)) (take_at r (b ++ rest) k long)
          (drop_at r (b ++ rest) k long)
          ∙ ap₂ behind (reverse-reverse (take k d)) (q.back rest);
    }

undoes-turned : (ks : List ℕ) → Undoes (turned ks) (turned ks)
unfolding Undoes
undoes-turned [] d left done e = grind arith
undoes-turned (k ∷ ks) d left done e = go (ltb (length d) k) refl e (undoes-turned ks)
  where
    go : (b : Bool) → ltb (length d) k ≡ b → cond b (stopped refusal.DataLength)
        (then (walked (drop k d) (reverse (take k d))) (turned ks)) ≡ walked left done → Undoes (turned ks) (turned ks)
        → Back (turned (k ∷ ks)) d left done
    go true h q ih = grind arith
    go false h q ih =
        let s = split (walked (drop k d) (reverse (take k d))) (turned ks) left done q in
        let l : s.l ≡ drop k d = cc s.first in
        let a : s.a ≡ reverse (take k d) = cc s.first in
        subst (Back (turned (k ∷ ks)) d left) (ap (λ (x : List ℕ). x ++ s.b) (sym a) ∙ s.joined)
        (part-back k ks d left s.b (ltb-false (length d) k h)
        (ih (drop k d) left s.b (ap (turned ks) (sym l) ∙ s.second)))

undoes-times : (n : ℕ) (f g : List ℕ → Walked) → Undoes f g → Undoes (times n f) (times n g)
unfolding Undoes
undoes-times zero f g u d left done e = grind arith
undoes-times (suc n) f g u d left done e =
    let s = split (f d) (times n f) left done e in
    both g (times n g) (times (suc n) g) d left done s (u d s.l s.a s.first)
    (undoes-times n f g u s.l left s.b s.second) (λ rest. refl)

-- the number in octets that are turned round, read in the other form
number-back : (form : Form) (s : List ℕ) → number_of (other form) (reverse s) ≡ number_of form s
number-back Wire s = refl
number-back Host s = ap (number_of Host) (reverse-reverse s)

-- UINT8, UINT16 and UINT32 have one part
record One (t : ℕ) : Type 0 where
  k : ℕ
  parts : parts_of t ≡ k ∷ []
  scalar : ltb t 17 ≡ true

one : (t : ℕ) → counts t ≡ true → One t
one t e = go (eqb t 8) (eqb t 9) (eqb t 10) refl refl refl e
  where
    go : (a b c : Bool) → eqb t 8 ≡ a → eqb t 9 ≡ b → eqb t 10 ≡ c → (a || b || c) ≡ true → One t
    go true b c p q r h = let e : t ≡ 8 = eqb-true t 8 p in record { k = 1; parts = rw e; scalar = rw e }
    go false true c p q r h = let e : t ≡ 9 = eqb-true t 9 q in record { k = 2; parts = rw e; scalar = rw e }
    go false false true p q r h = let e : t ≡ 10 = eqb-true t 10 r in record { k = 4; parts = rw e; scalar = rw e }
    go false false false p q r h = absurd (true≢false (sym h))

-- a single scalar of one part
record Single (k : ℕ) (d a : List ℕ) : Type 0 where
  fits : k ≤ length d
  turns : a ≡ reverse (take k d)

single : (k : ℕ) (d l a : List ℕ) → times 1 (turned (k ∷ [])) d ≡ walked l a → Single k d a
single k d l a q = go (ltb (length d) k) refl q
  where
    go : (b : Bool) → ltb (length d) k ≡ b
        → then (cond b (stopped refusal.DataLength) (then (walked (drop k d) (reverse (take k d))) (turned [])))
        (times 0 (turned (k ∷ []))) ≡ walked l a → Single k d a
    go true h e = grind arith
    go false h e =
        let r : List ℕ = reverse (take k d) in
        let f : a ≡ r ++ [] ++ [] = cc in
        record { fits = ltb-false (length d) k h; turns = f ∙ append-nil (r ++ []) ∙ append-nil r }

-- n items of an element, and the elements behind it
abbrev on : Form → (ℕ → ℕ → List ℕ → Walked) → Element → List Element → List ℕ → ℕ → Walked
on form nested e es x n = then (items_of nested e.type n x) (walk_of form nested es (count_behind form e x))

module _ (nested nested' : ℕ → ℕ → List ℕ → Walked) (u : (t n : ℕ) → Undoes (nested t n) (nested' t n)) where
  undoes-items : (t n : ℕ) → Undoes (items_of nested t n) (items_of nested' t n)
  unfolding Undoes
  undoes-items t n = which (ltb t 17)
    where
      which : (b : Bool) → Undoes (λ d. cond b (times n (turned (parts_of t)) d) (nested t n d))
          (λ d. cond b (times n (turned (parts_of t)) d) (nested' t n d))
      which true = undoes-times n (turned (parts_of t)) (turned (parts_of t)) (undoes-turned (parts_of t))
      which false = u t n

  -- the count behind an element is the same in both forms
  same_count : (form : Form) (e : Element) (n : ℕ) (d l a rest : List ℕ) → (e.count ≡ 1 → n ≡ 1)
      → items_of nested e.type n d ≡ walked l a → count_behind (other form) e (a ++ rest) ≡ count_behind form e d
  same_count form e n d l a rest h q = go (eqb e.count 1) (counts e.type) refl refl
    where
      go : (b c : Bool) → eqb e.count 1 ≡ b → counts e.type ≡ c
          → cond (b && c) (Some (number_of (other form) (take (size (parts_of e.type)) (a ++ rest)))) None
          ≡ cond (b && c) (Some (number_of form (take (size (parts_of e.type)) d))) None
      go false c x y = refl
      go true false x y = refl
      go true true x y =
          let o = one e.type y in
          let i : items_of nested e.type n d ≡ times 1 (turned (o.k ∷ [])) d =
          rw (o.scalar, h (eqb-true e.count 1 x), o.parts) in
          let w = single o.k d l a (sym i ∙ q) in
          let r : List ℕ = reverse (take o.k d) in
          let k : size (parts_of e.type) ≡ o.k = ap size o.parts ∙ add-zero o.k in
          let long : length r ≡ o.k = length-reverse (take o.k d) ∙ length-take-le o.k d w.fits in
          ap Some
          (ap₂ (λ (m : ℕ) (s : List ℕ). number_of (other form) (take m (s ++ rest))) k w.turns
          ∙ ap (number_of (other form)) (take_at r rest o.k long)
          ∙ number-back form (take o.k d)
          ∙ ap (λ (m : ℕ). number_of form (take m d)) (sym k))

  undoes-walk : (form : Form) (es : List Element) (c : Option ℕ)
      → Undoes (walk_of form nested es c) (walk_of (other form) nested' es c)
  unfolding Undoes
  undoes-walk form [] c d left done e = grind arith
  undoes-walk form (e ∷ es) c d left done q = go e.count c refl q (undoes-walk form es)
    where
      step : (n : ℕ) → (e.count ≡ 1 → n ≡ 1) → on form nested e es d n ≡ walked left done
          → ((c : Option ℕ) → Undoes (walk_of form nested es c) (walk_of (other form) nested' es c))
          → Back (λ x. on (other form) nested' e es x n) d left done
      step n h q ih =
          let c' : Option ℕ = count_behind form e d in
          let s = split (items_of nested e.type n d) (walk_of form nested es c') left done q in
          both (items_of nested' e.type n) (walk_of (other form) nested' es c') (λ x. on (other form) nested' e es x n)
          d left done s
          (undoes-items e.type n d s.l s.a s.first) (ih c' s.l left s.b s.second)
          (λ rest. ap (λ (x : Option ℕ). then (items_of nested' e.type n (s.a ++ rest))
          (walk_of (other form) nested' es x)) (same_count form e n d s.l s.a rest h s.first))

      go : (m : ℕ) (c : Option ℕ) → e.count ≡ m → with_items c m (on form nested e es d) ≡ walked left done
          → ((c : Option ℕ) → Undoes (walk_of form nested es c) (walk_of (other form) nested' es c))
          → Back (λ x. with_items c m (on (other form) nested' e es x)) d left done
      go (suc n) c k q ih = step (suc n) (λ f. sym k ∙ f) q ih
      go zero None k q ih = grind arith
      go zero (Some m) k q ih = step m (λ f. absurd (omega arith)) q ih

undoes-nested : (levels : ℕ) (form : Form) (run : List ℕ) (id n : ℕ)
    → Undoes (nested_of levels form run id n) (nested_of levels (other form) run id n)
unfolding Undoes
undoes-nested zero form run id zero d left done q = nothing _ d left done (λ rest. refl) q
undoes-nested zero form run id (suc n) d left done q = grind arith
undoes-nested (suc levels) form run id zero d left done q = nothing _ d left done (λ rest. refl) q
undoes-nested (suc levels) form run id (suc n) d left done q = go (look_up id run) q (undoes-nested levels form run)
  where
    go : (w : Result (List Element) Refusal)
        → through_found w (λ es. times (suc n) (walk_of form (nested_of levels form run) es None) d) ≡ walked left done
        → ((t m : ℕ) → Undoes (nested_of levels form run t m) (nested_of levels (other form) run t m))
        → Back (λ x. through_found w
        (λ es. times (suc n) (walk_of (other form) (nested_of levels (other form) run) es None) x)) d left done
    go (Ok es) q ih =
        undoes-times (suc n) (walk_of form (nested_of levels form run) es None)
        (walk_of (other form) (nested_of levels (other form) run) es None)
        (undoes-walk (nested_of levels form run) (nested_of levels (other form) run) ih form es None) d left done q
    go (Err r) q ih = grind arith

undoes-whole : (form : Form) (run : List ℕ) (id : ℕ) → Undoes (whole_of form run id) (whole_of (other form) run id)
unfolding Undoes
undoes-whole form run id d left done q = go (look_up id run) q
  where
    go : (w : Result (List Element) Refusal)
        → through_found w (λ es. walk_of form (nested_of 4 form run) es None d) ≡ walked left done
        → Back (λ x. through_found w (λ es. walk_of (other form) (nested_of 4 (other form) run) es None x)) d left done
    go (Ok es) q = undoes-walk (nested_of 4 form run) (nested_of 4 (other form) run) (undoes-nested 4 form run)
        form es None d left done q
    go (Err r) q = grind arith

-- what one form converts to without rest, the other converts back
pub there_and_back : (form : Form) (run : List ℕ) (id : ℕ) (d h : List ℕ) → whole_of form run id d ≡ walked [] h
    → whole_of (other form) run id h ≡ walked [] d
unfolding Undoes
there_and_back form run id d h e =
    let b = undoes-whole form run id d [] h e in
    ap (whole_of (other form) run id) (sym (append-nil h)) ∙ b.back []
    ∙ ap (walked []) (sym (b.splits ∙ append-nil b.front))

-- from the wire to host form and back to the wire gives the same octets
pub wire-host-wire : (run : List ℕ) (id : ℕ) (d h : List ℕ) → whole_of Wire run id d ≡ walked [] h
    → whole_of Host run id h ≡ walked [] d
wire-host-wire = there_and_back Wire

-- from host form to the wire and back to host form gives the same octets
pub host-wire-host : (run : List ℕ) (id : ℕ) (d h : List ℕ) → whole_of Host run id h ≡ walked [] d
    → whole_of Wire run id d ≡ walked [] h
host-wire-host run id d h = there_and_back Host run id h d

-- host form is as long as the data: what is converted and what is left are as many octets as there were
pub as_long : (form : Form) (run : List ℕ) (id : ℕ) (d left done : List ℕ) → whole_of form run id d ≡ walked left done
    → length done + length left ≡ length d
as_long form run id d left done e = subst (Even d) e (even-whole form run id d)
