-- The slots before number k have taken their step; what is left to do from there on gives the whole.
use Rattle.std.proofs.Common.{◌≡◌, length}
use Rattle.subscriptions.proofs.Slots.{Gone}
use Rattle.subscriptions.proofs.Table.sweep.Given as goal

abbrev pub invariant-loop-k : goal.invariant-loop-k
invariant-loop-k l =
    record {
      end : l.k-end ≡ length l.fn.self.slots.now;
      slots : length l.slots ≡ length l.fn.self.slots.now;
      store : length l.store ≡ length l.fn.self.store.now;
      gone : Gone l.event l.dataset l.fn.self.slots.now l.fn.self.store.now l.t l.k l.slots l.store;
    }
