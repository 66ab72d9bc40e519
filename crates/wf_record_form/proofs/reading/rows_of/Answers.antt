use Rattle.std.proofs.Common.{◌+◌, ◌++◌, ◌∷◌, List, drop, map, ap, sym, ◌∙◌, arith}
use Rattle.wf_places.proofs.WalkLemmas.{drop_at_place}
use Rattle.wf_val.specs.Seen.{tree}
use Rattle.wf_val.specs.declared.val.Val.{Val}
use Rattle.wf_record_form.specs.Reading.{row_of}
use Rattle.wf_record.specs.Record.{RowTree}
use Rattle.wf_record.specs.Seen.{row_tree}
use Rattle.wf_record.specs.declared.row.Row.{Row}
use Rattle.wf_record_form.proofs.OrderLemmas.{next_above}
use Rattle.wf_record_form.proofs.reading.rows_of.Goals as goal

-- the next row is above those so far, since all stand in order
pub append-requires : goal.append-requires
append-requires c =
    let values : List Val = c.args.values.now in
    let i = c.loop-value.value-index in
    let rows : List Row = c.loop-value.rows in
    let row : Row = c.in_ok-row_of.field-0 in
    let rest : List RowTree = map row_of (map tree (drop (i + 1) values)) in
    let here = drop_at_place values i c.value-item.result (omega arith) c.value-item.is in
    next_above rows row rest (map row_of (map tree values))
    (ap (λ (t : RowTree). map row_tree rows ++ (t ∷ rest)) c.in_ok-row_of.ensures
    ∙ ap (λ (xs : List Val). map row_tree rows ++ map row_of (map tree xs)) (sym here) ∙ c.loop-value.invariant)
    c.requires
