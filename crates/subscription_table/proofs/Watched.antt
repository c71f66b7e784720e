-- Demand 3 for one subscription, from its grant through the call that frees it.
use mathlib.Core.Path.{◌≡◌, refl, sym, ap, ◌∙◌}
use mathlib.Core.Logic.{◌⊎◌, inl, inr}
use mathlib.Core.Bool.{Bool, true, false, cond}
use mathlib.Core.List.{List, [], ◌∷◌}
use mathlib.Core.Option.{Option, none, some}
use Prim.Native.Nat.{ℕ, ◌≤◌, ◌<◌}
use native.Mathlib.Omega.{arith}
use lib.Dec.{eqb}
use lib.ListN.{length, get_or, set, replicate, length-replicate, get_or-map}
use lib.Seq.{get_or-set_same, get_or-set_other}
use Rattle.refusal.specs.declared.Refusal.TheVariants as refusal
use Rattle.subscription.specs.Record.{matches, unsound}
use Rattle.subscription.specs.declared.Heard.{Heard}
use Rattle.tables.specs.Lists.{any, count, lowest, grant, at_slot}
use Rattle.tables.specs.Trace.{run}
use Rattle.tables.specs.Watch.{step_if, answer_if}
use Rattle.subscription_table.specs.Slot.{Judged, refusal, passed, judged, Request, slot_octets}
use Rattle.subscription_table.specs.Table.{Call, subscribe, unsubscribe, telegram, time_check, read, Answer, granted}
use Rattle.subscription_table.specs.Table.{freed, refused, early, delivered_to, slots, Table, fits, step, empty_table}
use Rattle.subscription_table.specs.Alone.{Fed, arrived, checked, asked, Slot, free, held, alone, only, joined, is_free}
use Rattle.subscription_table.specs.Alone.{granted_same, reached, feed, changes, beside, refusing}
use Rattle.subscription_table.specs.Demand3.{OneSlot}
use Rattle.subscription_table.specs.Watched.{slot_at, unused, gave1, names, fed, heard, slot_watch}
use Rattle.tables.proofs.Trace.{same-run, run-keeps}
use Rattle.std.proofs.lemmas.Bool.{eqb-true}
use Rattle.tables.proofs.View.{none-either}
use Rattle.tables.proofs.Lists.{eqb-other, lowest-is, grant-leaves}
use Rattle.tables.proofs.Watch.{Follows, same-watch}
use Rattle.subscription_table.proofs.Lent.{slot_lent, fits-means}
use Rattle.subscription_table.proofs.One.{cell_of, kept, sized, step-one, only-is}
use Rattle.subscription_table.proofs.Beside.{joined_is, joined-empty, agrees, keeps, length-beside, Refused, refuses}

gave1-delivered : (b : Bool) (n : ℕ) → gave1 (delivered_to b n) ≡ false
gave1-delivered b n = grind arith

-- freeing leaves a free slot, and is answered so
freeing : (q : Request) (time : ℕ) (fs : List Fed)
    → step (unsubscribe 0) (alone q time fs) ≡ record { answer = freed; after = only free }
unfolding slots at_slot
freeing q time fs =
    rw (only-is (held q time fs), step-one (unsubscribe 0) (held q time fs), (kept q time fs).used, only-is free) refl

asking : (sub : List ℕ) (q : Request) (time : ℕ) (fs : List Fed) → alone q time (asked sub ∷ fs) ≡ alone q time fs
asking sub q time fs = rw (only-is (held q time (asked sub ∷ fs)), only-is (held q time fs)) refl

-- ---- call by call, where slot k is held

slot-joined : (ss : List Slot) (k : ℕ) → k < length ss → slot_at k (joined ss) ≡ only (get_or ss k free)
slot-joined ss k lt = rw (joined_is ss, only-is (get_or ss k free)) (slot_lent cell_of sized ss k free lt)

module _ (k : ℕ) (q : Request) (time : ℕ) (ss : List Slot) (fs : List Fed) (lt : k < length ss)
    (is : get_or ss k free ≡ held q time fs) where
  -- what the slot alone is fed of a call, and the answer that is seen of it
  abbrev feeds : Call → Option Call
  feeds c = cond (gave1 (beside c ss).answer) none (fed k q.filter c)

  abbrev seen : Call → Option Answer
  seen c = cond (gave1 (beside c ss).answer) none (heard k c (beside c ss).answer)

  record After (c : Call) : Type 0 where
    slot : only (get_or (beside c ss).after k free) ≡ step_if (slot_watch k q.filter) (feeds c) (alone q time fs)
    on : (unused (only (get_or (beside c ss).after k free)) ≡ true)
        ⊎ ((fs' : List Fed) × (get_or (beside c ss).after k free ≡ held q time fs'))

  goes : (c : Call) (fs' : List Fed) → get_or (beside c ss).after k free ≡ held q time fs'
      → alone q time fs' ≡ step_if (slot_watch k q.filter) (feeds c) (alone q time fs) → After c
  goes c fs' e a = record { slot = rw e a; on = inr (fs', e) }

  stays : (c : Call) → get_or (beside c ss).after k free ≡ get_or ss k free → feeds c ≡ none → After c
  stays c e n = goes c fs (e ∙ is) (rw n refl)

  after : (c : Call) → After c
  unfolding beside at_slot alone
  after (subscribe r t) =
      stays (subscribe r t) (grant-leaves is_free free (early (unsound r.filter) (any (granted_same r) ss))
      (refused refusal.NoFreeSlot) granted (held r t []) ss k (rw is refl) (lowest is_free ss) refl)
      (none-either (gave1 (beside (subscribe r t) ss).answer))
  after (unsubscribe j) = go (eqb j k) refl
    where
      go : (b : Bool) → eqb j k ≡ b → After (unsubscribe j)
      go true e =
          let answers : (beside (unsubscribe j) ss).answer ≡ freed = rw (eqb-true j k e, is, freeing q time fs) refl in
          let frees : get_or (set ss j free) k free ≡ free = rw (eqb-true j k e) (get_or-set_same ss k free free lt) in
          record {
            slot = rw (frees, answers, e) (sym (ap (λ o. o.after) (freeing q time fs)));
            on = inl (rw frees refl);
          }
      go false e = stays (unsubscribe j) (get_or-set_other ss j k free free (eqb-other j k e))
          (rw e (none-either (gave1 (beside (unsubscribe j) ss).answer)))
  after (telegram a d) = go (judged a d) refl
    where
      to : (h : Heard) (dataset : List ℕ) → judged a d ≡ passed h dataset → (b : Bool) → matches q.filter h ≡ b
          → After (telegram a d)
      to h dataset e true m =
          goes (telegram a d) (arrived a d ∷ fs)
          (rw e (get_or-map (λ s. cond (reached h s) (feed (arrived a d) s) s) ss k free ∙ rw (is, m) refl))
          (rw (e, gave1-delivered (any (reached h) ss) (count (changes (arrived a d)) ss), m) refl)
      to h dataset e false m =
          stays (telegram a d)
          (rw e (get_or-map (λ s. cond (reached h s) (feed (arrived a d) s) s) ss k free ∙ rw (is, m) refl))
          (rw (e, gave1-delivered (any (reached h) ss) (count (changes (arrived a d)) ss), m) refl)

      go : (jd : Judged) → judged a d ≡ jd → After (telegram a d)
      go (refusal n) e = stays (telegram a d) (rw e refl) (rw e (none-either (gave1 (refused n))))
      go (passed h dataset) e = to h dataset e (matches q.filter h) refl
  after (time_check t) =
      goes (time_check t) (checked t ∷ fs) (get_or-map (feed (checked t)) ss k free ∙ ap (feed (checked t)) is) refl
  after (read j sub) = go (eqb j k) refl
    where
      asks : (one : Bool) → alone q time (asked sub ∷ fs)
          ≡ step_if (slot_watch k q.filter) (cond one none (some (read 0 sub))) (alone q time fs)
      asks true = asking sub q time fs
      asks false = refl

      go : (b : Bool) → eqb j k ≡ b → After (read j sub)
      go true e =
          goes (read j sub) (asked sub ∷ fs) (rw (eqb-true j k e)
          (get_or-set_same ss k (feed (asked sub) (get_or ss k free)) free lt ∙ ap (feed (asked sub)) is))
          (rw e (asks (gave1 (beside (read j sub) ss).answer)))
      go false e =
          stays (read j sub) (get_or-set_other ss j k (feed (asked sub) (get_or ss j free)) free (eqb-other j k e))
          (rw e (none-either (gave1 (beside (read j sub) ss).answer)))

  -- to a call that names a slot the answer is the slot alone's
  named : (c own : Call) (j : ℕ) → names k c ≡ eqb j k → (one b : Bool) → eqb j k ≡ b
      → cond one none (heard k c (step own (only (get_or ss j free))).answer)
      ≡ answer_if (slot_watch k q.filter) c (cond one none (cond b (some own) none)) (alone q time fs)
  named c own j n one b e = grind arith

  answer-after : (c : Call) → seen c ≡ answer_if (slot_watch k q.filter) c (feeds c) (alone q time fs)
  unfolding beside at_slot
  answer-after (subscribe r t) = grind arith
  answer-after (unsubscribe j) =
      named (unsubscribe j) (unsubscribe 0) j refl (gave1 (beside (unsubscribe j) ss).answer) (eqb j k) refl
  answer-after (telegram a d) = grind arith
  answer-after (time_check t) = grind arith
  answer-after (read j sub) =
      named (read j sub) (read 0 sub) j refl (gave1 (beside (read j sub) ss).answer) (eqb j k) refl

-- ---- the whole list

-- slot k is held: the table is slots alone side by side, of which slot k is one that was granted
pub record Held (k : ℕ) (q : Request) (time : ℕ) (t : Table) : Type 0 where
  ss : List Slot
  fs : List Fed
  fits : length ss ≤ 32
  lt : k < length ss
  is : get_or ss k free ≡ held q time fs
  table : t ≡ joined ss

pub follows : (k : ℕ) (q : Request) (time : ℕ) (c : Call) (t : Table) → Held k q time t
    → Follows (slot_watch k q.filter) (Held k q time) c t
follows k q time c t h = rw h.table
    (record {
      slot =
          rw (agrees c h.ss h.fits, slot-joined (beside c h.ss).after k lt', slot-joined h.ss k h.lt, h.is) then.slot;
      answer = rw (agrees c h.ss h.fits, slot-joined h.ss k h.lt, h.is) (answer-after k q time h.ss h.fs h.lt h.is c);
      on = rw (agrees c h.ss h.fits) (on then.on);
    })
  where
    ss' : List Slot
    ss' = (beside c h.ss).after

    lt' : k < length ss'
    lt' = rw (length-beside c h.ss) h.lt

    then : After k q time h.ss h.fs h.lt h.is c
    then = after k q time h.ss h.fs h.lt h.is c

    on : (unused (only (get_or ss' k free)) ≡ true) ⊎ ((fs' : List Fed) × (get_or ss' k free ≡ held q time fs'))
        → (unused (slot_at k (joined ss')) ≡ true) ⊎ Held k q time (joined ss')
    on (inl e) = inl (ap unused (slot-joined ss' k lt') ∙ e)
    on (inr p) = inr (record { ss = ss'; fs = p.0; fits = keeps c h.ss h.fits; lt = lt'; is = p.1; table = refl })

-- ---- from the grant on

grant-means : (bad same : Bool) (o : Option ℕ) (k : ℕ) (new : Slot) (ss : List Slot)
    → (grant (early bad same) o (refused refusal.NoFreeSlot) granted new ss).answer ≡ granted k
    → (bad ≡ false) × (o ≡ some k)
    × ((grant (early bad same) o (refused refusal.NoFreeSlot) granted new ss).after ≡ set ss k new)
unfolding grant
grant-means bad same o k new ss e = grind arith

-- the grant, as a table's only slot
alone-granted : (q : Request) (time : ℕ) → unsound q.filter ≡ false
    → (step (subscribe q time) (empty_table 1 slot_octets)).after ≡ alone q time []
unfolding slots grant alone
alone-granted q time e = rw (only-is free, step-one (subscribe q time) free, e) refl

fits-if-granted : (n octets : ℕ) (before : List Call) (q : Request) (time k : ℕ)
    → (step (subscribe q time) (run step before (empty_table n octets))).answer ≡ granted k → fits n octets ≡ true
fits-if-granted n octets before q time k e = go (fits n octets) refl
  where
    go : (b : Bool) → fits n octets ≡ b → b ≡ true
    go true f = refl
    go false f =
        let t = empty_table n octets in
        let r : Refused t = simp length-replicate f in
        let same : run step before t ≡ run refusing before t =
        same-run step refusing (λ u. u) Refused (λ c u h. h) refuses before t r in
        let r' : Refused (run refusing before t) =
        run-keeps step refusing (λ u. u) Refused (λ c u h. h) refuses before t r in
        let e' : granted k ≡ refused refusal.Sizes = sym e ∙ ap (λ u. (step (subscribe q time) u).answer) same
        ∙ ap (λ o. o.answer) (refuses (subscribe q time) (run refusing before t) r') in
        grind arith

from-grant : (ss : List Slot) → length ss ≤ 32 → (q : Request) (time k : ℕ)
    → let t = step (subscribe q time) (joined ss) in
    t.answer ≡ granted k → (slot_at k t.after ≡ (step (subscribe q time) (empty_table 1 slot_octets)).after)
    × Held k q time t.after
unfolding beside alone
from-grant ss le q time k e =
    let c = subscribe q time in
    let ss' : List Slot = (beside c ss).after in
    let g = grant-means (unsound q.filter) (any (granted_same q) ss) (lowest is_free ss) k (held q time []) ss
    (rw (agrees c ss le) at e) in
    let lt : k < length ss = (lowest-is is_free free ss k g.1).0 in
    let lt' : k < length ss' = rw (length-beside c ss) lt in
    let is : get_or ss' k free ≡ held q time [] = ap (λ l. get_or l k free) g.2
    ∙ get_or-set_same ss k (held q time []) free lt in
    let slot : slot_at k (joined ss') ≡ alone q time [] = slot-joined ss' k lt' ∙ ap only is in
    let h : Held k q time (joined ss') =
    record { ss = ss'; fs = []; fits = keeps c ss le; lt = lt'; is = is; table = refl } in
    rw (agrees c ss le, alone-granted q time g.0) (slot, h)

-- a grant after any list of calls: the slot is the slot alone's, and is held
pub granted-held : (n octets : ℕ) (before : List Call) (q : Request) (time k : ℕ)
    → let grant = step (subscribe q time) (run step before (empty_table n octets)) in
    grant.answer ≡ granted k → (slot_at k grant.after ≡ (step (subscribe q time) (empty_table 1 slot_octets)).after)
    × Held k q time grant.after
granted-held n octets before q time k e =
    let m = fits-means n octets (fits-if-granted n octets before q time k e) in
    let start : List Slot = replicate n free in
    let le : length start ≤ 32 = rw (length-replicate n free) m.0 in
    let same : run step before (empty_table n octets) ≡ joined (run beside before start) =
    rw (m.1, ← joined-empty n) (same-run step beside joined (λ ss. length ss ≤ 32) keeps agrees before start le) in
    rw same (from-grant (run beside before start)
    (run-keeps step beside joined (λ ss. length ss ≤ 32) keeps agrees before start le) q time k (rw same at e))

pub demand-3 : OneSlot
demand-3 n octets before after q time k e =
    let g = granted-held n octets before q time k e in
    let t : Table = (step (subscribe q time) (run step before (empty_table n octets))).after in
    (g.0, rw g.0 at (same-watch (slot_watch k q.filter) (Held k q time) (follows k q time) after t g.1))
