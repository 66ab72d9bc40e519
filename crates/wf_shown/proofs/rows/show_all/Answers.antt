use Rattle.std.proofs.Common.{◌≡◌, ◌+◌, ℕ, List, Option, map, option_map, drop, sym, ap, ◌∙◌, arith}
use Rattle.wf_html.proofs.PieceLemmas.{written_append}
use Rattle.wf_html.specs.Html.{Piece, written}
use Rattle.wf_record.specs.Record.{RowTree}
use Rattle.wf_record.specs.Seen.{record_tree, row_tree}
use Rattle.wf_record.specs.declared.row.Row.{Row}
use Rattle.wf_shown.specs.Changes.{change_of}
use Rattle.wf_shown.specs.Rows.{all_shown, row_pieces}
use Rattle.wf_shown.proofs.RowLemmas.{drop_at_place}
use Rattle.wf_shown.proofs.rows.show_all.Goals as goal

pub loop-row-preserved : goal.loop-row-preserved
loop-row-preserved c =
    let xs : List Row = c.args.rows.now in
    let i = c.loop-row.row-index in
    let item : Row = c.row-item.result in
    let earlier : Option (List RowTree) = option_map (λ r. (record_tree r.now).rows) c.args.earlier in
    let shown : List Row → List Piece = λ rs. all_shown c.args.closes earlier (map row_tree rs) in
    let one : List Piece = row_pieces (change_of c.args.closes earlier (row_tree item)) (row_tree item) in
    let here = drop_at_place xs i item (omega arith) c.row-item.is in
    ap (λ (b : List ℕ). written b (shown (drop (i + 1) xs))) c.in_ok-bytes.ensures
    ∙ sym (written_append c.loop-row.bytes.items one (shown (drop (i + 1) xs)))
    ∙ ap (λ (rs : List Row). written c.loop-row.bytes.items (shown rs)) (sym here)
    ∙ c.loop-row.invariant
