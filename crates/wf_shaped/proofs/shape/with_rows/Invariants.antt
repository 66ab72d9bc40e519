use Rattle.std.proofs.Common.{◌≡◌, drop, flat_map, map}
use Rattle.wf_catalog.specs.ReadSeen.{def_tree}
use Rattle.wf_record.specs.Seen.{record_tree, row_tree}
use Rattle.wf_shaped.specs.Failing.{told_in}
use Rattle.wf_shaped.specs.Least.{least_from}
use Rattle.wf_shaped.proofs.shape.with_rows.Given as goal

abbrev pub invariant-loop-row : goal.invariant-loop-row
invariant-loop-row l =
    least_from l.least.address (flat_map (told_in (def_tree l.ways) (record_tree l.log).rows) (map row_tree (drop l.row-index l.rows)))
    ≡ least_from l.fn.least.address (flat_map (told_in (def_tree l.ways) (record_tree l.log).rows) (map row_tree l.rows))
