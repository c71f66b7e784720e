-- The sweep over the slots: what each slot leaves to the slots behind it.
-- Assumes nothing.
use Prim.Native.Nat.{ℕ, suc, ◌+◌, ◌*◌, ◌-◌, ◌<◌, ◌≤◌, ◌^◌}
use native.Mathlib.Omega.{arith}
use native.Mathlib.Numerals.{add-one}
use mathlib.Core.Path.{◌≡◌, refl, sym, ◌∙◌, ap, subst}
use mathlib.Core.List.{List, [], ◌∷◌, ◌++◌, map, append-nil, append_assoc}
use mathlib.Core.Bool.{Bool, true, false}
use lib.ListN.{length, take, drop, get_or, set, length-append, length-drop, take-append-drop, drop_of_length-le}
use lib.Seq.{drop-cons, take_all, take-suc-set, drop-set-lt, append_snoc, set-get_or, length-take-le, drop-drop, take_at, drop_at}
use Rattle.octets.specs.Octets.{part, put}
use Rattle.octets.proofs.Parts.{part_length, put-mid}
use Rattle.subscription.specs.Record.{free_record}
use Rattle.subscription_table.specs.Slot.{slot_octets}
use Rattle.subscription_step.specs.Step.{record_after, part_after, changes, reaches, concerns, tallied, no_tally, Room}
use Rattle.subscription_table.specs.Table.{fits}
use Rattle.subscription_step.specs.declared.Event.{Event}
use Rattle.subscription.specs.declared.Subscription.{Subscription}
use Rattle.subscription_step.specs.declared.Tally.{Tally}
use Rattle.subscription_table.proofs.Lent.{fits-means}
use Rattle.subscription_step.proofs.Stepping.{one-small, record-stays, part_stays, tally-stays}
use Rattle.std.specs.Prelude.{Ok, Err}
use Rattle.refusal.specs.declared.Refusal.{Refusal}
use Rattle.refusal.specs.declared.Refusal.TheVariants as refusal
use Rattle.refusal.specs.Refusal.{first_of}
use Rattle.subscription_decisions.specs.Calls.{size_checks}
use Rattle.subscriptions.specs.Sweep.{store_after, tally_after, store_stepped, Sweeps}
use Rattle.subscription_decisions.proofs.Parts.{after-length}
use Rattle.subscriptions.proofs.Sizes.{sized as sized_by}

-- a part put where it was taken from
put-part : (n k : ℕ) (s : List ℕ) → k + n ≤ length s → put k (part n k s) s ≡ s
put-part n k s h =
    sym (put-mid k n s (part n k s) (sym (part_length n k s h)))
    ∙ ap (λ (l : List ℕ). take k s ++ l) (take-append-drop n (drop k s)) ∙ take-append-drop k s

-- ---- after the slots before number i: what the slots from there on leave is what all slots leave
pub record Gone (ev : Event) (d : List ℕ) (rs : List Subscription) (st : List ℕ) (c : Tally) (i : ℕ) (rs' : List Subscription) (st' : List ℕ) : Type 0 where
  pub sized : fits (length rs) (length st) ≡ true
  pub among : i ≤ length rs
  pub room : Room (length rs - i) c
  pub records-left : take i rs' ++ map (record_after ev (length d)) (drop i rs') ≡ map (record_after ev (length d)) rs
  pub store-left : take (i * 1432) st' ++ store_after ev d (drop i rs') (drop (i * 1432) st') ≡ store_after ev d rs st
  pub tally-left : tally_after ev (length d) (drop i rs') c ≡ tally_after ev (length d) rs no_tally

module _ (ev : Event) (d : List ℕ) (rs : List Subscription) (st : List ℕ) where
  -- sizes are wrong: all stays
  pub unswept : (r : Refusal) → first_of (size_checks (length rs) (length st)) ≡ Err r → Sweeps ev d rs st (Err r) rs st
  unswept r e = go (fits (length rs) (length st)) refl e
    where
      go : (b : Bool) → fits (length rs) (length st) ≡ b → sized_by b ≡ Err r → Sweeps ev d rs st (Err r) rs st
      go true f h = grind arith
      go false f h =
          let e : refusal.Sizes ≡ r = grind arith in
          record { answers = rw (← e, f) refl; records-after = rw f refl; store-after = rw f refl }

  module _ (sized : fits (length rs) (length st) ≡ true) where
    abbrev fitting : fits (length rs) (length st) ≡ true
    fitting = sized

    -- the store has a part for each slot
    enough : length st ≡ length rs * 1432
    unfolding slot_octets
    enough = (fits-means (length rs) (length st) fitting).1

    pub begun : length rs < 2 ^ 64 → Gone ev d rs st no_tally 0 rs st
    begun h = record { sized = sized; among = omega arith; room = record { matched = omega arith; changed = omega arith }; records-left = refl; store-left = refl; tally-left = refl }

    module _ (c : Tally) (i : ℕ) (rs' : List Subscription) (st' : List ℕ) (same : length rs' ≡ length rs) (same_Store : length st' ≡ length st) where
      abbrev r : Subscription
      r = get_or rs' i free_record

      module _ (g : Gone ev d rs st c i rs' st') (h : i < length rs) where
        part_in : i * 1432 + 1432 ≤ length st'
        part_in = omega (arith, h, same_Store, enough)

        -- what the step asks
        pub asked : Room 1 c × (i * 1432 + 1432 ≤ length st')
        asked = (record { matched = omega (arith, h, g.room.matched); changed = omega (arith, h, g.room.changed) }, part_in)

        within : i < length rs'
        within = omega (arith, h, same)

        here : drop i rs' ≡ r ∷ drop (suc i) rs'
        here = drop-cons rs' i free_record within

        abbrev y : Subscription
        y = record_after ev (length d) r

        behind : drop (suc i) (set rs' i y) ≡ drop (suc i) rs'
        behind = drop-set-lt (suc i) rs' i y (omega arith)

        abbrev p : List ℕ
        p = part_after ev d r (part 1432 (i * 1432) st')

        p-length : length p ≡ 1432
        p-length = after-length ev d r (part 1432 (i * 1432) st') (part_length 1432 (i * 1432) st' part_in)

        ends : length (take (i * 1432) st' ++ p) ≡ suc i * 1432
        ends = length-append (take (i * 1432) st') p
            ∙ omega (arith, p-length, length-take-le (i * 1432) st' (omega (arith, part_in)))

        abbrev rest : List ℕ
        rest = drop (i * 1432 + length p) st'

        pub same_length : length (store_stepped ev d r i st') ≡ length st'
        unfolding slot_octets
        same_length = length-append (take (i * 1432) st' ++ p) rest
            ∙ omega (arith, ends, part_in, p-length, length-drop (i * 1432 + length p) st')

        store-on : take (suc i * 1432) (put (i * 1432) p st') ++ store_after ev d (drop (suc i) (set rs' i y)) (drop (suc i * 1432) (put (i * 1432) p st'))
            ≡ take (i * 1432) st' ++ store_after ev d (drop i rs') (drop (i * 1432) st')
        unfolding slot_octets
        store-on =
            ap (λ (l : List ℕ). l ++ store_after ev d (drop (suc i) (set rs' i y)) (drop (suc i * 1432) (put (i * 1432) p st'))) (take_at (take (i * 1432) st' ++ p) rest (suc i * 1432) ends)
            ∙ ap (λ (l : List ℕ). (take (i * 1432) st' ++ p) ++ store_after ev d (drop (suc i) (set rs' i y)) l) (drop_at (take (i * 1432) st' ++ p) rest (suc i * 1432) ends ∙ ap (λ (m : ℕ). drop (i * 1432 + m) st') p-length ∙ sym (drop-drop 1432 (i * 1432) st'))
            ∙ ap (λ (l : List Subscription). (take (i * 1432) st' ++ p) ++ store_after ev d l (drop 1432 (drop (i * 1432) st'))) behind
            ∙ append_assoc (take (i * 1432) st') p (store_after ev d (drop (suc i) rs') (drop 1432 (drop (i * 1432) st')))
            ∙ ap (λ (l : List Subscription). take (i * 1432) st' ++ store_after ev d l (drop (i * 1432) st')) (sym here)

        -- slot i takes the event
        pub stepped : Gone ev d rs st (tallied ev (length d) r c) (i + 1) (set rs' i y) (store_stepped ev d r i st')
        unfolding slot_octets
        stepped =
            record {
              sized = sized;
              among = omega (arith, h);
              room =
                  record {
                    matched = omega (arith, h, g.room.matched, one-small (reaches ev r));
                    changed = omega (arith, h, g.room.changed, one-small (changes ev (length d) r));
                  };
              records-left = rw (add-one, take-suc-set rs' i y within, behind, append_snoc) (ap (λ (l : List Subscription). take i rs' ++ map (record_after ev (length d)) l) (sym here) ∙ g.records-left);
              store-left = rw add-one (store-on ∙ g.store-left);
              tally-left = rw (add-one, behind) (ap (λ (l : List Subscription). tally_after ev (length d) l c) (sym here) ∙ g.tally-left);
            }

        -- the event does not concern slot i
        pub skipped : concerns ev r ≡ false → Gone ev d rs st c (i + 1) rs' st'
        unfolding slot_octets
        skipped e =
            subst (λ (t : Tally). Gone ev d rs st t (i + 1) rs' st') (tally-stays ev r e (length d) c)
            (subst (λ (l : List Subscription). Gone ev d rs st (tallied ev (length d) r c) (i + 1) l st') (ap (set rs' i) (record-stays ev r e (length d)) ∙ set-get_or rs' i free_record)
            (subst (λ (s : List ℕ). Gone ev d rs st (tallied ev (length d) r c) (i + 1) (set rs' i y) s) (ap (λ (q : List ℕ). put (i * 1432) q st') (part_stays ev r e d (part 1432 (i * 1432) st')) ∙ put-part 1432 (i * 1432) st' part_in)
            stepped))

      -- all slots are behind
      pub swept : Gone ev d rs st c i rs' st' → length rs ≤ i → Sweeps ev d rs st (Ok c) rs' st'
      swept g b =
          let none : drop i rs' ≡ [] = drop_of_length-le rs' {i = i} (omega (arith, same, b)) in
          let all : take i rs' ≡ rs' = take_all i rs' (omega (arith, same, b)) in
          record {
            answers = rw fitting (ap (λ (t : Tally). Ok t) (ap (λ (l : List Subscription). tally_after ev (length d) l c) (sym none) ∙ g.tally-left));
            records-after =
                rw fitting (sym (append-nil rs') ∙ ap (λ (l : List Subscription). l ++ []) (sym all) ∙ ap (λ (l : List Subscription). take i rs' ++ map (record_after ev (length d)) l) (sym none) ∙ g.records-left);
            store-after = rw fitting (sym (take-append-drop (i * 1432) st') ∙ ap (λ (l : List Subscription). take (i * 1432) st' ++ store_after ev d l (drop (i * 1432) st')) (sym none) ∙ g.store-left);
          }
