use Rattle.std.proofs.Common.{◌≡◌, ◌≤◌, ℕ, length}
use Rattle.std.specs.Vec.Iter.{into_iter_items}
use Rattle.wf_tables.specs.Known.{store_in}
use Rattle.wf_events.specs.Written.{put_each}
use Rattle.wf_events.proofs.store.put_writers.Given as goal

-- those that are left to put, over what is put, are all
abbrev pub invariant-loop-writer : goal.invariant-loop-writer
invariant-loop-writer l = record {
  room : length (into_iter_items l.writer-iterator) ≤ l.store.1;
  store : (v : ℕ) → put_each (into_iter_items l.writer-iterator) (store_in l.store.0) v
      ≡ put_each l.fn.writers.items (store_in l.fn.store.0) v;
}
