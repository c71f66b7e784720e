-- The first of both are lent, and joined with the others again.
use Rattle.std.proofs.Common.{rules, ◌≡◌, ◌∙◌, refl, length}
use Rattle.std.proofs.lemmas.List.{take_min}
use Rattle.lent.proofs.Serving.{slots-joined, store-joined}
use Rattle.lent.proofs.Slots.with_table.Goals as goal

pub returns : goal.returns
returns g c =
    let t = c.args.self.now in
    let s = c.f.new.arg2 in
    let whole : length t.records ≡ 40 = search rules in
    record {
      before = _;
      after = s;
      slots-before = c.split_at_mut-slots.ensures.front ∙ rw (c.count-n.ensures, ← whole) (take_min t.lent t.records);
      store-before = search (rules, take_min);
      ran = record { shown = _; shows = refl; left = _; met = c.f.ensures; leaves = refl };
      slots-after = λ l. slots-joined t _ c.split_at_mut-slots.result.1.now s.slots.now whole (search rules) (search (rules, l));
      store-after = λ l. store-joined t.octets c.args.store.now _ c.split_at_mut-store.result.1.now s.store.now (search rules) (search (rules, l));
    }
