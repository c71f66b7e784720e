-- A search from slot to slot finds the lowest that passes.
-- Assumes nothing.
use mathlib.Core.Path.{◌≡◌}
use mathlib.Core.Bool.{Bool, true, false}
use mathlib.Core.List.{List}
use Prim.Native.Nat.{ℕ}
use lib.ListN.{length}
use denote.Ref.{Bor}
use denote.Param.Members.{Mut}
use Rattle.std.specs.declared.option.Option.{Option}
use Rattle.std.specs.declared.ops.Range.{Range}
use Rattle.std.specs.Iterator.{YieldsThen}
use Rattle.std.specs.List.{FoldsTo}
use Rattle.std.specs.Fn.{CalledAt}
use Rattle.std.specs.Option.{MatchOption}
use Rattle.std.specs.Bool.{⊤}
use Rattle.std.proofs.iter.Yields.{nat_range_steps}
use Rattle.std.proofs.lemmas.Iterator.{first_from_Range}
use Rattle.tables.specs.Lists.{lowest}
use Rattle.session.specs.declared.Listener.{Listener}
use Rattle.session.specs.declared.Session.{Session}
use Rattle.session.specs.Listener.{free_listener}
use Rattle.session.specs.Session.{free_session}
use Rattle.session_table.specs.Sought.{found_of}
use Rattle.session_table.proofs.Searches.{Answers, first-found}
use Rattle.packed.specs.Packed.{tables_of}
use Rattle.packed_slots.proofs.Places.{sessions-long, listeners-long}

abbrev slots : Range ℕ
slots = record { start = 0; end = 16 }

-- what a closure tells of each slot that it is asked of, called with f: whether it passes, and f stays where it does not
abbrev Tells : {F X : Type 0} → Mut F (Bor ℕ × Unit {0}) Bool → F → (X → Bool) → X → List X → Type 0
Tells {F} g f p d xs =
    ((x : ℕ) (q : F) → CalledAt g f x true q → Answers p d xs 16 true x)
    × ((x : ℕ) (q : F) → CalledAt g f x false q → (q ≡ f) × Answers p d xs 16 false x)

module _ {F : Type 0} {g : Mut F (Bor ℕ × Unit {0}) Bool} (f : F) (u : Range ℕ) {r : Option ℕ}
    (ran : (xs : List ℕ) × (j : F) × YieldsThen nat_range_steps slots xs r u
    × FoldsTo (λ p x q. CalledAt g p x false q) f xs j × MatchOption r ⊤ (λ x. (h : F) × CalledAt g j x true h)) where
  found : {X : Type 0} (p : X → Bool) (d : X) (xs : List X) → length xs ≡ 16 → Tells g f p d xs
      → r ≡ found_of (lowest p xs)
  found p d xs l t = first-found p d xs 16 r l (first_from_Range slots u f r _ _ ran t.0 t.1)

  pub session_found : (p : Session → Bool) (s : List ℕ) → Tells g f p free_session (tables_of s).sessions
      → r ≡ found_of (lowest p (tables_of s).sessions)
  session_found p s = found p free_session (tables_of s).sessions (sessions-long s)

  pub listener_found : (p : Listener → Bool) (s : List ℕ) → Tells g f p free_listener (tables_of s).listeners
      → r ≡ found_of (lowest p (tables_of s).listeners)
  listener_found p s = found p free_listener (tables_of s).listeners (listeners-long s)
