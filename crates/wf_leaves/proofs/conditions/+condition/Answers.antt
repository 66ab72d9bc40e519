use Rattle.std.proofs.Common.{arith}
use Rattle.wf_val.proofs.NodeCountLemmas.{item-falls}
use Rattle.wf_leaves.proofs.conditions.+condition.Goals as goal

pub conditions_of-condition_of-requires : goal.conditions_of-condition_of-requires
conditions_of-condition_of-requires t c =
    let here = item-falls c.args.items.now c.as_slice-item-items.result.now c.loop-item.item-index c.item-item.result c.as_slice-item-items.ensures (omega arith) c.item-item.is in
    omega (arith, c.decreases, here)
