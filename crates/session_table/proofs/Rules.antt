-- An opening answers and leaves what the rule says of its place.
-- Assumes nothing.
use mathlib.Core.Path.{◌≡◌, refl, sym, ap, ◌∙◌}
use mathlib.Core.Bool.{Bool, true, false, cond}
use mathlib.Core.List.{List}
use mathlib.Core.Option.{Option, none, some}
use Prim.Native.Nat.{ℕ}
use Rattle.std.specs.Prelude.{Ok, Err, Result}
use Rattle.refusal.specs.declared.Refusal.{Refusal}
use Rattle.refusal.specs.declared.Refusal.TheVariants.{SessionInUse, NoFreeSession}
use Rattle.tables.specs.Trace.{Outcome}
use Rattle.tables.specs.Lists.{any, lowest, grant}
use Rattle.session.specs.Session.{is_free, has}
use Rattle.session.specs.declared.Session.{Session}
use Rattle.session.specs.declared.SessionState.{SessionState}
use Rattle.session_table.specs.Table.{Answer, refused_plain, opening}
use Rattle.session_table.specs.Calls.{told, place_of, placed, place_answer}

module _ (given : ℕ → Answer) (full : Answer) (id : List ℕ) (state : SessionState) (xs : List Session) where
  abbrev new : Session
  new = record { id = id; state = state }

  abbrev pub place : Result ℕ Refusal
  place = place_of (any (has id) xs) (lowest (λ x. is_free x.state) xs)

  -- an opening whose identifier is in use or not, and whose lowest free session is o
  abbrev opened : Bool → Option ℕ → Outcome Answer (List Session)
  opened b o = grant (cond b (some (refused_plain SessionInUse)) none) o full given new xs

  abbrev outcome : Result ℕ Refusal → Outcome Answer (List Session)
  outcome p = record { answer = place_answer given full p; after = placed p new xs }

  pub opening-at : (p : Result ℕ Refusal) → p ≡ place → opening given full id state xs ≡ outcome p
  unfolding grant
  opening-at p e = go (any (has id) xs) (lowest (λ x. is_free x.state) xs) ∙ ap outcome (sym e)
    where
      go : (b : Bool) (o : Option ℕ) → opened b o ≡ outcome (place_of b o)
      go true o = refl
      go false none = refl
      go false (some k) = refl

  pub opening-leaves : (p : Result ℕ Refusal) → p ≡ place → (opening given full id state xs).after ≡ placed p new xs
  opening-leaves p e = ap (λ (o : Outcome Answer (List Session)). o.after) (opening-at p e)

  pub opening-given : (k : ℕ) → Ok k ≡ place → (opening given full id state xs).answer ≡ given k
  opening-given k e = ap (λ (o : Outcome Answer (List Session)). o.answer) (opening-at (Ok k) e)

  pub opening-full : Err NoFreeSession ≡ place → (opening given full id state xs).answer ≡ full
  opening-full e = ap (λ (o : Outcome Answer (List Session)). o.answer) (opening-at (Err NoFreeSession) e)

  pub opening-in-use : (r : Refusal) → (r ≡ NoFreeSession → ⊥) → Err r ≡ place
      → (opening given full id state xs).answer ≡ refused_plain r
  unfolding grant
  opening-in-use r n e = go (any (has id) xs) (lowest (λ x. is_free x.state) xs) e
    where
      go : (b : Bool) (o : Option ℕ) → Err r ≡ place_of b o → (opened b o).answer ≡ refused_plain r
      go true o e = let z : SessionInUse ≡ r = cc in ap refused_plain z
      go false none e = let z : r ≡ NoFreeSession = cc in absurd (n z)
      go false (some j) e = cc

-- where a full table answers by its refusal alone
pub opening-told : (given : ℕ → Answer) (id : List ℕ) (state : SessionState) (xs : List Session) (p : Result ℕ Refusal)
    → p ≡ place given (refused_plain NoFreeSession) id state xs
    → told given p ≡ (opening given (refused_plain NoFreeSession) id state xs).answer
unfolding grant
opening-told given id state xs p e = ap (told given) e ∙ go (any (has id) xs) (lowest (λ x. is_free x.state) xs)
  where
    go : (b : Bool) (o : Option ℕ)
        → told given (place_of b o) ≡ (opened given (refused_plain NoFreeSession) id state xs b o).answer
    go true o = refl
    go false none = refl
    go false (some k) = refl
