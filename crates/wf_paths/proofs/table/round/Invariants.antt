use Rattle.std.proofs.Common.{◌≡◌, ◌++◌, All, length, map}
use Rattle.std.specs.Vec.Iter.{into_iter_items}
use Rattle.wf_paths.specs.Table.{through_row}
use Rattle.wf_paths.proofs.table.round.Given as goal

abbrev pub invariant-loop-row : goal.invariant-loop-row
invariant-loop-row l = record {
  done_and_left : map (λ r. r.items) l.new.items ++ map (λ r. through_row r.items l.k l.through.items) (into_iter_items l.row-iterator)
      ≡ map (λ r. through_row r.items l.k l.through.items) l.fn.rows.items;
  as_long : All (λ r. length r.items ≡ length l.through.items) (into_iter_items l.row-iterator);
}
