-- Walks one behind the other; what holds of every walk because it holds of each part and is kept by `then`; how much of
-- the data a walk takes.
-- Assumes nothing.
use Rattle.std.specs.Prelude.{Option, None, Result, Ok, Err}
use mathlib.Core.Path.{◌≡◌, refl, sym, ap, ◌∙◌}
use mathlib.Core.List.{List, [], ◌∷◌, append-nil, reverse}
use mathlib.Core.Bool.{Bool, true, false, cond}
use Prim.Native.Nat.{ℕ, zero, suc, ◌+◌, ◌-◌, ◌≤◌}
use native.Mathlib.Omega.{arith}
use borrow.Author.Tests.{ltb-false}
use lib.Dec.{ltb}
use lib.ListN.{length, take, drop, length-append, length-take, length-drop, length-reverse}
use lib.Seq.{drop-drop}
use Rattle.refusal.specs.declared.Refusal.{Refusal}
use Rattle.refusal.specs.declared.Refusal.TheVariants as refusal
use Rattle.scalars.specs.Scalars.{parts_of}
use Rattle.dataset.specs.Descriptions.{Element, look_up}
use Rattle.dataset.specs.Walk.{Walked, stopped, walked, behind, then, times, turned, count_behind, with_items, items_of}
use Rattle.dataset.specs.Walk.{walk_of, through_found, unless_none, nested_of, whole_of}
use Rattle.dataset.specs.declared.Form.{Form}

-- what every walk keeps: it holds where a walk stops, takes nothing or one part, and of one walk behind another
module _ (Q : List ℕ → Walked → Type 0) (stop : (d : List ℕ) (r : Refusal) → Q d (stopped r))
    (here : (d : List ℕ) → Q d (walked d []))
    (part : (k : ℕ) (d : List ℕ) → k ≤ length d → Q d (walked (drop k d) (reverse (take k d))))
    (more : (d : List ℕ) (w : Walked) (f : List ℕ → Walked) → Q d w → ((l : List ℕ) → Q l (f l)) → Q d (then w f)) where
  pub of-turned : (ks d : List ℕ) → Q d (turned ks d)
  of-turned [] d = here d
  of-turned (k ∷ ks) d = short (ltb (length d) k) refl (of-turned ks)
    where
      short : (b : Bool) → ltb (length d) k ≡ b → ((l : List ℕ) → Q l (turned ks l))
          → Q d (cond b (stopped refusal.DataLength) (then (walked (drop k d) (reverse (take k d))) (turned ks)))
      short true e h = stop d refusal.DataLength
      short false e h = more d _ (turned ks) (part k d (ltb-false (length d) k e)) h

  pub of-times : (n : ℕ) (f : List ℕ → Walked) → ((l : List ℕ) → Q l (f l)) → (d : List ℕ) → Q d (times n f d)
  of-times zero f h d = here d
  of-times (suc n) f h d = more d (f d) (times n f) (h d) (of-times n f h)

  module _ (nested : ℕ → ℕ → List ℕ → Walked) (h : (t n : ℕ) (l : List ℕ) → Q l (nested t n l)) where
    pub of-items : (t n : ℕ) (d : List ℕ) → Q d (items_of nested t n d)
    of-items t n d = which (ltb t 17)
      where
        which : (b : Bool) → Q d (cond b (times n (turned (parts_of t)) d) (nested t n d))
        which true = of-times n (turned (parts_of t)) (of-turned (parts_of t)) d
        which false = h t n d

    of-with : (c : Option ℕ) (n : ℕ) (f : ℕ → Walked) (d : List ℕ) → ((m : ℕ) → Q d (f m)) → Q d (with_items c n f)
    of-with c n f d k = grind arith

    pub of-walk : (form : Form) (es : List Element) (c : Option ℕ) (d : List ℕ) → Q d (walk_of form nested es c d)
    of-walk form [] c d = here d
    of-walk form (e ∷ es) c d =
        of-with c e.count _ d
        λ n. more d (items_of nested e.type n d) (walk_of form nested es (count_behind form e d)) (of-items e.type n d)
        λ l. of-walk form es (count_behind form e d) l

  of-found : (w : Result (List Element) Refusal) (f : List Element → Walked) (d : List ℕ)
      → ((es : List Element) → Q d (f es)) → Q d (through_found w f)
  of-found w f d h = grind arith

  of-unless : (n : ℕ) (d : List ℕ) (w : Walked) → Q d w → Q d (unless_none n d w)
  of-unless n d w h = grind arith

  pub of-nested : (levels : ℕ) (form : Form) (run : List ℕ) (id n : ℕ) (d : List ℕ)
      → Q d (nested_of levels form run id n d)
  of-nested zero form run id n d = grind arith
  of-nested (suc levels) form run id n d =
      of-unless n d _
      (of-found (look_up id run) _ d
      λ es. of-times n _ (of-walk (nested_of levels form run) (of-nested levels form run) form es None) d)

  pub of-whole : (form : Form) (run : List ℕ) (id : ℕ) (d : List ℕ) → Q d (whole_of form run id d)
  of-whole form run id d =
      of-found (look_up id run) _ d λ es. of-walk (nested_of 4 form run) (of-nested 4 form run) form es None d

-- a walk takes octets from the front of the data: what it leaves is the rest
abbrev pub Takes : List ℕ → Walked → Type 0
Takes d (stopped r) = Unit {0}
Takes d (walked left done) = (length left ≤ length d) × (left ≡ drop (length d - length left) d)

pub takes-more : (d : List ℕ) (w : Walked) (f : List ℕ → Walked) → Takes d w → ((l : List ℕ) → Takes l (f l))
    → Takes d (then w f)
takes-more d (stopped r) f h k = tt
takes-more d (walked left done) f h k = on (f left) (k left)
  where
    on : (w : Walked) → Takes left w → Takes d (behind done w)
    on (stopped r) m = tt
    on (walked l more) m =
        let a : length left ≤ length d = h.0 in
        let b : length l ≤ length left = m.0 in
        let e : length d - length left + (length left - length l) ≡ length d - length l = omega arith in (
          omega arith,
          m.1
              ∙ ap (drop (length left - length l)) h.1
              ∙ drop-drop (length left - length l) (length d - length left) d
              ∙ ap (λ (n : ℕ). drop n d) e,
        )

pub takes_part : (k : ℕ) (d : List ℕ) → k ≤ length d → Takes d (walked (drop k d) (reverse (take k d)))
takes_part k d h =
    let e : length d - length (drop k d) ≡ k = simp length-drop (omega arith) in
    (simp length-drop (omega arith), sym (ap (λ (n : ℕ). drop n d) e))

pub takes-here : (d : List ℕ) → Takes d (walked d [])
takes-here d = grind arith

-- as many octets are converted as are taken
abbrev pub Even : List ℕ → Walked → Type 0
Even d (stopped r) = Unit {0}
Even d (walked left done) = length done + length left ≡ length d

even-more : (d : List ℕ) (w : Walked) (f : List ℕ → Walked) → Even d w → ((l : List ℕ) → Even l (f l))
    → Even d (then w f)
even-more d (stopped r) f h k = tt
even-more d (walked left done) f h k = on (f left) (k left)
  where
    on : (w : Walked) → Even left w → Even d (behind done w)
    on (stopped r) m = tt
    on (walked l more) m = omega (arith, length-append done more, m, h)

even-part : (k : ℕ) (d : List ℕ) → k ≤ length d → Even d (walked (drop k d) (reverse (take k d)))
even-part k d h = simp (length-reverse, length-take, length-drop) (omega arith)

even-here : (d : List ℕ) → Even d (walked d [])
even-here d = omega arith

-- each walk takes octets from the front
pub takes-turned : (ks d : List ℕ) → Takes d (turned ks d)
takes-turned = of-turned Takes (λ d r. tt) takes-here takes_part takes-more

pub takes-times : (n : ℕ) (f : List ℕ → Walked) → ((l : List ℕ) → Takes l (f l)) → (d : List ℕ) → Takes d (times n f d)
takes-times = of-times Takes (λ d r. tt) takes-here takes_part takes-more

takes-nested : (levels : ℕ) (form : Form) (run : List ℕ) (id n : ℕ) (d : List ℕ)
    → Takes d (nested_of levels form run id n d)
takes-nested = of-nested Takes (λ d r. tt) takes-here takes_part takes-more

pub takes-items : (levels : ℕ) (form : Form) (run : List ℕ) (t n : ℕ) (d : List ℕ)
    → Takes d (items_of (nested_of levels form run) t n d)
takes-items levels form run =
    of-items Takes (λ d r. tt) takes-here takes_part takes-more (nested_of levels form run)
    (takes-nested levels form run)

pub takes-walk : (levels : ℕ) (form : Form) (run : List ℕ) (es : List Element) (c : Option ℕ) (d : List ℕ)
    → Takes d (walk_of form (nested_of levels form run) es c d)
takes-walk levels form run =
    of-walk Takes (λ d r. tt) takes-here takes_part takes-more (nested_of levels form run)
    (takes-nested levels form run) form

-- host form has no gaps: as many octets are converted as are taken
pub even-items : (levels : ℕ) (form : Form) (run : List ℕ) (t n : ℕ) (d : List ℕ)
    → Even d (items_of (nested_of levels form run) t n d)
even-items levels form run =
    of-items Even (λ d r. tt) even-here even-part even-more (nested_of levels form run)
    (of-nested Even (λ d r. tt) even-here even-part even-more levels form run)

pub even-walk : (levels : ℕ) (form : Form) (run : List ℕ) (es : List Element) (c : Option ℕ) (d : List ℕ)
    → Even d (walk_of form (nested_of levels form run) es c d)
even-walk levels form run =
    of-walk Even (λ d r. tt) even-here even-part even-more (nested_of levels form run)
    (of-nested Even (λ d r. tt) even-here even-part even-more levels form run) form

pub even-whole : (form : Form) (run : List ℕ) (id : ℕ) (d : List ℕ) → Even d (whole_of form run id d)
even-whole = of-whole Even (λ d r. tt) even-here even-part even-more

-- a dataset is an array of one, with five levels
then-nothing : (w : Walked) → then w (λ l. walked l []) ≡ w
then-nothing (stopped r) = refl
then-nothing (walked left done) = ap (walked left) (append-nil done)

pub whole-nested : (form : Form) (run : List ℕ) (id : ℕ) (d : List ℕ)
    → nested_of 5 form run id 1 d ≡ whole_of form run id d
whole-nested form run id d = go (look_up id run)
  where
    go : (w : Result (List Element) Refusal)
        → through_found w (λ es. times 1 (walk_of form (nested_of 4 form run) es None) d)
        ≡ through_found w (λ es. walk_of form (nested_of 4 form run) es None d)
    go (Ok es) = then-nothing (walk_of form (nested_of 4 form run) es None d)
    go (Err r) = refl
