use Rattle.std.proofs.Common.{arith}
use Rattle.wf_val.proofs.NodeCountLemmas.{item-falls, member-falls}
use Rattle.wf_record.proofs.short.+put.Goals as goal

pub put_items-put_value-requires : goal.put_items-put_value-requires
put_items-put_value-requires t c =
    let vs = c.as_slice-item-items.result.now in
    let seen = c.as_slice-item-items.ensures in
    let here = item-falls c.args.items.now vs c.loop-place.place c.item-item.result seen (omega arith) c.item-item.is in
    omega (arith, c.decreases, here)

pub put_fields-put_value-requires : goal.put_fields-put_value-requires
put_fields-put_value-requires t c =
    let vs = c.as_slice-member-items.result.now in
    let seen = c.as_slice-member-items.ensures.members in
    let here = member-falls c.args.fields.now vs c.loop-place.place c.member-item.result seen (omega arith) c.member-item.is in
    omega (arith, c.decreases, here)
