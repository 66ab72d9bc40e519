use Rattle.std.proofs.Common.{◌≡◌, ℕ, List, Bool, Vec, Global, map, length, ap, ◌∙◌, arith}
use Rattle.wf_paths.specs.Table.{from, names}
use Rattle.wf_paths.proofs.TableLemmas.{table_next}
use Rattle.wf_paths.proofs.table.first_table.Goals as goal

pub loop-entries-preserved : goal.loop-entries-preserved
loop-entries-preserved c =
    let nodes : List (Vec ℕ Global) = c.args.nodes.now in
    let row : Vec Bool Global = c.in_ok-first_row.field-0 in
    let own : row.items ≡ from 0 (length nodes) (names c.entries-item.result.items) =
    c.in_ok-first_row.ensures ∙ ap (λ es. from 0 (length nodes) (names es)) c.deref.ensures.value in
    ap (λ (rs : List (Vec Bool Global)). map (λ r. r.items) rs) c.in_ok-push.ensures.items
    ∙ table_next (λ (r : Vec Bool Global). r.items) nodes
    (λ e. e.items) c.loop-entries.rows.items c.loop-entries.entries-index row c.entries-item.result c.entries-item.result
    (omega arith) c.entries-item.is own c.loop-entries.invariant
