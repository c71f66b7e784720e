-- The law of a watched slot, over every list of calls: a slot that follows the slot alone call by call is seen as the
-- slot alone.
use mathlib.Core.Path.{◌≡◌, refl, ap}
use mathlib.Core.Logic.{◌⊎◌, inl, inr}
use mathlib.Core.Bool.{Bool, true, cond}
use mathlib.Core.List.{List, [], ◌∷◌}
use mathlib.Core.Option.{Option, none}
use Rattle.tables.specs.Watch.{Watch, Seen, watched, told, fed_unless, step_if, answer_if, watched_alone}

module _ {C A T : Type 0} (w : Watch C A T) where
  -- the answer that is seen of a call to the table
  abbrev pub seen : C → T → Option A
  seen c t = cond (w.gave1 (w.step c t).answer) none (w.hears c (w.step c t).answer)

  abbrev pub feeds : C → T → Option C
  feeds c t = fed_unless w (w.gave1 (w.step c t).answer) c

  -- what is to be shown of each call where the slot is held: the slot and the answer are the slot alone's, and either
  -- it is held after it or the watch ends
  pub record Follows (Held : T → Type 0) (c : C) (t : T) : Type 0 where
    pub slot : w.slot (w.step c t).after ≡ step_if w (feeds c t) (w.slot t)
    pub answer : seen c t ≡ answer_if w c (feeds c t) (w.slot t)
    pub on : (w.free (w.slot (w.step c t).after) ≡ true) ⊎ Held (w.step c t).after

  module _ (Held : T → Type 0) (each : (c : C) (t : T) → Held t → Follows Held c t) where
    pub same-watch : (cs : List C) (t : T) → Held t → watched w cs t ≡ watched_alone w (told w cs t) (w.slot t)
    unfolding watched watched_alone
    same-watch [] t h = refl
    same-watch (c ∷ cs) t h =
        rw (← (each c t h).slot, ← (each c t h).answer)
        (ap (λ l. record { slot = w.slot (w.step c t).after; answer = seen c t } ∷ l)
        (rest (w.free (w.slot (w.step c t).after)) (same-watch cs (w.step c t).after) (each c t h).on))
      where
        rest : {x y : List (Seen A T)} (b : Bool) → (Held (w.step c t).after → x ≡ y)
            → (b ≡ true) ⊎ Held (w.step c t).after → cond b [] x ≡ cond b [] y
        rest b ih (inl e) = rw e refl
        rest b ih (inr h') = ap (λ l. cond b [] l) (ih h')
