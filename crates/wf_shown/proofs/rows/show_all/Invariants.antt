use Rattle.std.proofs.Common.{◌≡◌, drop, map, option_map}
use Rattle.wf_html.specs.Html.{written}
use Rattle.wf_record.specs.Seen.{record_tree, row_tree}
use Rattle.wf_shown.specs.Rows.{all_shown}
use Rattle.wf_shown.proofs.rows.show_all.Given as goal

-- what is written, and the rows that are left
abbrev pub invariant-loop-row : goal.invariant-loop-row
invariant-loop-row l =
    written l.bytes.items (all_shown l.closes (option_map (λ r. (record_tree r.now).rows) l.earlier) (map row_tree (drop l.row-index l.rows)))
    ≡ written l.fn.bytes.items (all_shown l.closes (option_map (λ r. (record_tree r.now).rows) l.earlier) (map row_tree l.rows))
