use Rattle.std.proofs.Common.{◌≤◌, length, map, option_map, arith}
use Rattle.std.proofs.lemmas.List.{length-map}
use Rattle.wf_record.specs.Seen.{record_tree, row_tree}
use Rattle.wf_shown.proofs.RowLemmas.{several_rows}
use Rattle.wf_shown.proofs.rows.show_rows.Goals as goal

pub returns-in_default : goal.returns-in_default
returns-in_default c =
    let many : 2 ≤ length (map row_tree c.args.rows.now) = omega (arith, length-map c.args.rows.now row_tree, c.in_default.len_at_least) in
    let e = several_rows c.args.closes (option_map (λ r. (record_tree r.now).rows) c.args.earlier) (map row_tree c.args.rows.now) many in
    rw e c.show_several.ensures
