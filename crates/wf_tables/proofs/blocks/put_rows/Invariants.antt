use Rattle.std.proofs.Common.{◌≡◌, ◌≤◌, length}
use Rattle.std.specs.Vec.Iter.{into_iter_items}
use Rattle.wf_tables.specs.Blocks.{put_rows}
use Rattle.wf_tables.proofs.blocks.put_rows.Given as goal

-- those that are left to put, over what is put, are all
abbrev pub invariant-loop-row : goal.invariant-loop-row
invariant-loop-row g l = record {
  room : length (into_iter_items l.row-iterator) ≤ l.rows.1;
  rows : put_rows (into_iter_items l.row-iterator) l.rows.0 ≡ put_rows l.fn.block.items l.fn.rows.0;
}
