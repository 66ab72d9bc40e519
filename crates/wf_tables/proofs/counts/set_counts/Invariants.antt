use Rattle.std.proofs.Common.{◌≡◌, ◌≤◌, length}
use Rattle.std.specs.Vec.Iter.{into_iter_items}
use Rattle.wf_plan.specs.Address.{Address}
use Rattle.wf_tables.specs.Counts.{set_all}
use Rattle.wf_tables.specs.Tables.{count_in}
use Rattle.wf_tables.proofs.counts.set_counts.Given as goal

-- those that are left to put, over what is put, are all
abbrev pub invariant-loop-item : goal.invariant-loop-item
invariant-loop-item l = record {
  room : length (into_iter_items l.item-iterator) ≤ l.counts.1;
  counts : (x : Address)
      → set_all (into_iter_items l.item-iterator) (count_in l.counts.0) x ≡ set_all l.fn.items.items (count_in l.fn.counts.0) x;
}
