use Rattle.std.proofs.Common.{◌<◌, ◌≤◌, length, sym, ◌∙◌, ltb-true, arith}
use Rattle.wf_val.specs.NodeCountFalls.{deep_le-node_count}
use Rattle.wf_val.proofs.NodeCountLemmas.{item-falls, member-falls}
use Rattle.wf_val.proofs.ValueOrderLemmas.{trees_order-ended, members_order-ended}
use Rattle.wf_val.proofs.+order.Goals as goal

pub vals::Vals::order-order-requires : goal.vals::Vals::order-order-requires
vals::Vals::order-order-requires t c =
    let xs = c.as_slice-items.result.now in
    let here = item-falls c.args.self.now xs c.loop-place.place c.index-items-place.result c.as_slice-items.ensures (omega arith) c.index-items-place.is in
    omega (arith, c.decreases, here, deep_le-node_count c.index-items-place.result)

pub vals::Vals::order-returns-then-items-others : goal.vals::Vals::order-returns-then-items-others
vals::Vals::order-returns-then-items-others t c =
    let xs = c.as_slice-items.result.now in
    let ys = c.as_slice-others.result.now in
    let ended : length xs ≤ c.loop-place.place = omega arith in
    let more : c.loop-place.place < length ys = omega arith in
    sym (trees_order-ended xs ys c.loop-place.place ended more) ∙ c.loop-place.invariant

pub fields::Fields::order-order_members-requires : goal.fields::Fields::order-order_members-requires
fields::Fields::order-order_members-requires t c =
    let xs = c.as_slice-members.result.now in
    let here = member-falls c.args.self.now xs c.loop-place.place c.index-members-place.result c.as_slice-members.ensures.members (omega arith) c.index-members-place.is in
    omega (arith, c.decreases, here, deep_le-node_count c.index-members-place.result.1)

pub fields::Fields::order-returns-then-members-others : goal.fields::Fields::order-returns-then-members-others
fields::Fields::order-returns-then-members-others t c =
    let xs = c.as_slice-members.result.now in
    let ys = c.as_slice-others.result.now in
    let ended : length xs ≤ c.loop-place.place = omega arith in
    let more : c.loop-place.place < length ys = omega arith in
    sym (members_order-ended xs ys c.loop-place.place ended more) ∙ c.loop-place.invariant
