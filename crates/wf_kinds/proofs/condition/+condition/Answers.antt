use Rattle.std.proofs.Common.{◌≡◌, List, map, get_or, ap, arith}
use Rattle.wf_val.specs.Seen.{tree}
use Rattle.wf_val.specs.ValueTree.{node_count, trees, trees_count}
use Rattle.wf_val.specs.declared.val.Val.{Val}
use Rattle.wf_val.proofs.NodeCountLemmas.{item_count-le}
use Rattle.wf_kinds.proofs.PartLemmas.{many_operations}
use Rattle.wf_kinds.proofs.condition.+condition.Goals as goal

pub are_conditions-is_condition-requires : goal.are_conditions-is_condition-requires
are_conditions-is_condition-requires t c =
    let vs : List Val = c.as_slice-item-items.result.now in
    let item : Val = c.item-item.result in
    let whole : trees_count (trees (map tree vs)) ≡ trees_count (trees c.args.items.now) =
    ap (λ ts. trees_count (trees ts)) c.as_slice-item-items.ensures in
    let same : node_count (tree item) ≡ node_count (tree (get_or vs c.loop-item.item-index item)) =
    ap (λ v. node_count (tree v)) c.item-item.is in
    let here = item_count-le vs c.loop-item.item-index item (omega arith) in
    omega (arith, c.decreases, whole, same, here)

pub is_one_operation-returns-in-len2-up : goal.is_one_operation-returns-in-len2-up
is_one_operation-returns-in-len2-up t c =
    many_operations c.as_slice.result.now c.args.fields.now c.as_slice.ensures.members c.in-len2-up.len_at_least
