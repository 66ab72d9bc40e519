use Rattle.std.proofs.Common.{List, ◌+◌, drop, flat_map, map, ap, sym, ◌∙◌, arith}
use Rattle.wf_val.specs.declared.address.Address.{Address}
use Rattle.wf_catalog.specs.ReadSeen.{def_tree}
use Rattle.wf_record.specs.Seen.{record_tree, row_tree}
use Rattle.wf_record.specs.declared.row.Row.{Row}
use Rattle.wf_shaped.specs.Failing.{told_in}
use Rattle.wf_shaped.specs.Least.{least_from}
use Rattle.wf_shaped.proofs.LeastLemmas.{least_joined}
use Rattle.wf_shaped.proofs.MissingLemmas.{cut_at}
use Rattle.wf_shaped.proofs.shape.with_rows.Goals as goal

pub loop-row-preserved : goal.loop-row-preserved
loop-row-preserved c =
    let d = def_tree c.args.ways.now in
    let rows = (record_tree c.args.log.now).rows in
    let xs : List Row = c.args.rows.now in
    let item : Row = c.row-item.result in
    let so_far = c.loop-row.least.address in
    let rest : List Address = flat_map (told_in d rows) (map row_tree (drop (c.loop-row.row-index + 1) xs)) in
    ap (λ o. least_from o rest) c.in_ok-least.ensures
    ∙ (sym (least_joined so_far (told_in d rows (row_tree item)) rest)
    ∙ (ap (λ (zs : List Row). least_from so_far (flat_map (told_in d rows) (map row_tree zs)))
    (sym (cut_at xs c.loop-row.row-index item c.row-item.is (omega (arith, c.loop-row-test.true))))
    ∙ c.loop-row.invariant))
