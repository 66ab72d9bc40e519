use Rattle.std.proofs.Common.{arith}
use Rattle.wf_val.proofs.NodeCountLemmas.{item-falls, member-falls}
use Rattle.wf_json.proofs.writing.+put.Goals as goal

pub put_items-put-requires : goal.put_items-put-requires
put_items-put-requires t c =
    let vs = c.as_slice-item-items.result.now in
    let seen = c.as_slice-item-items.ensures in
    let here = item-falls c.args.items.now vs c.loop-item.item-index c.item-item.result seen (omega arith) c.item-item.is in
    omega (arith, c.decreases, here)

pub put_members-put-requires : goal.put_members-put-requires
put_members-put-requires t c =
    let vs = c.as_slice-name-items.result.now in
    let seen = c.as_slice-name-items.ensures.members in
    let m = c.loop-name-item.result in
    let here = member-falls c.args.fields.now vs c.loop-name.name-index m seen (omega arith) c.loop-name-item.is in
    omega (arith, c.decreases, here)
