use Rattle.std.proofs.Common.{arith}
use Rattle.wf_val.proofs.NodeCountLemmas.{member-falls}
use Rattle.wf_form.proofs.actions.+collect.Goals as goal

pub collect_among-collect_part-requires : goal.collect_among-collect_part-requires
collect_among-collect_part-requires t c =
    let fall = member-falls _ c.as_slice-entry-items.result.now c.loop-entry.entry-index c.entry-item.result
    c.as_slice-entry-items.ensures.members
    c.loop-entry-test.true c.entry-item.is in
    omega (arith, c.decreases, fall)
