use Rattle.std.proofs.Common.{◌≡◌, ◌++◌, map}
use Rattle.std.specs.Vec.Iter.{into_iter_items}
use Rattle.wf_record.specs.Seen.{row_tree}
use Rattle.wf_catalog.specs.ReadSeen.{def_tree}
use Rattle.wf_ended.specs.Found.{as_row}
use Rattle.wf_ended.proofs.rows.rows_of.Given as goal

-- the rows so far, and those that are left
abbrev pub invariant-loop-row : goal.invariant-loop-row
invariant-loop-row l = record {
  so_far : map row_tree l.there ≡ map (as_row (def_tree l.places)) l.yielded;
  whole :
      map row_tree l.there ++ map (as_row (def_tree l.places)) (into_iter_items l.row-iterator)
      ≡ map (as_row (def_tree l.places)) l.fn.found.items;
}
