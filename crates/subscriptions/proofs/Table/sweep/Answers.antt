-- A slot that the event concerns takes it; any other stays.
use Rattle.std.proofs.Common.{rules, ◌≡◌, ◌≤◌, ◌+◌, ◌-◌, ◌*◌, refl, sym, ap, ◌∙◌, ℕ, List, length, length-set}
use Rattle.std.specs.Prelude.{get_or}
use lib.Seq.{set-get_or}
use native.Mathlib.Nat.{add-sub_cancel_left}
use Rattle.octets.specs.Octets.{part, put}
use Rattle.octets.proofs.Parts.{part_length, put-mid}
use Rattle.subscription.specs.Record.{free_record}
use Rattle.subscription_table.specs.Slot.{slot_octets}
use Rattle.subscription_step.specs.Step.{part_after}
use Rattle.subscription_decisions.proofs.Parts.{after-length}
use Rattle.subscriptions.specs.Sweep.{store_stepped}
use Rattle.subscriptions.proofs.Slots as slots
use Rattle.subscriptions.proofs.Table.sweep.Goals.{then-is_concerning, else-is_concerning}
use Rattle.subscriptions.proofs.Table.sweep.Goals as goal

pub overflow_mul-from : goal.overflow_mul-from
overflow_mul-from c =
    let l = c.loop-k in
    let i = l.invariant in
    let p = (slots.asked _ _ _ _ i.gone.sized _ _ _ _ i.slots i.store i.gone c.loop-k-test.true).1 in
    search (rules, p)

pub overflow_add-from : goal.overflow_add-from
overflow_add-from c =
    let l = c.loop-k in
    let i = l.invariant in
    let p = (slots.asked _ _ _ _ i.gone.sized _ _ _ _ i.slots i.store i.gone c.loop-k-test.true).1 in
    search (rules, p)

pub slice_bounds-step-end : goal.slice_bounds-step-end
slice_bounds-step-end c =
    let l = c.loop-k in
    let i = l.invariant in
    let p = (slots.asked _ _ _ _ i.gone.sized _ _ _ _ i.slots i.store i.gone c.loop-k-test.true).1 in
    search (rules, p)

pub loop-k-preserved : goal.loop-k-preserved
unfolding slot_octets
loop-k-preserved c =
    let a = c.args in
    let l = c.loop-k in
    let i = l.invariant in
    let ev = a.event.now in
    let d = a.dataset.now in
    let rs = a.self.now.slots.now in
    let st = a.self.now.store.now in
    let n : ℕ = l.k * 1432 in
    let r = get_or l.slots l.k free_record in
    elim c.if-is_concerning.branch [
      | then-is_concerning w ↦
          let e = w.step.ensures in
          let p = w.step.new.part in
          let z : n + 1432 - n ≡ 1432 = add-sub_cancel_left n 1432 in
          let q : p ≡ part_after ev d r (part 1432 n l.store) =
          e.part-after ∙ ap (λ (m : ℕ). part_after ev d r (part m n l.store)) z in
          let in' : n + 1432 ≤ length l.store =
          (slots.asked ev d rs st i.gone.sized l.t l.k l.slots l.store i.slots i.store i.gone c.loop-k-test.true).1 in
          let m : n + 1432 - n ≡ length p =
          z ∙ sym (ap length q ∙ after-length ev d r (part 1432 n l.store) (part_length 1432 n l.store in')) in
          let s : c.if-is_concerning.store ≡ store_stepped ev d r l.k l.store =
          w.store-is ∙ put-mid n (n + 1432 - n) l.store p m ∙ ap (λ (y : List ℕ). put n y l.store) q in
          rw (w.slots-is, s, w.t-is, e.record-after, e.tally-after)
          (record {
            end = refl;
            slots = length-set l.slots l.k _ ∙ i.slots;
            store = slots.same_length ev d rs st i.gone.sized l.t l.k l.slots l.store i.slots i.store i.gone c.loop-k-test.true ∙ i.store;
            gone = slots.stepped ev d rs st i.gone.sized l.t l.k l.slots l.store i.slots i.store i.gone c.loop-k-test.true;
          })
      | else-is_concerning w ↦
          rw (w.slots-is, set-get_or l.slots l.k free_record, w.store-is, w.t-is)
          (record {
            end = refl;
            slots = i.slots;
            store = i.store;
            gone = slots.skipped ev d rs st i.gone.sized l.t l.k l.slots l.store i.slots i.store i.gone c.loop-k-test.true
                (sym c.is_concerning.ensures ∙ w.if-is_concerning.false);
          })
    ]
