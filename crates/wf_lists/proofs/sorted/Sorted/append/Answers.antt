use Rattle.wf_lists.proofs.KeyOrderLemmas.{in_order-append}
use Rattle.wf_lists.proofs.sorted.Sorted.append.Goals as goal

-- the item is above the others
pub invariant_of-self-2 : goal.invariant_of-self-2
invariant_of-self-2 g c =
    let above = rw (← c.self.view_is) at c.requires in
    rw c.in_ok-push.ensures.items (in_order-append g.met.T.Key.Ord.total g.T.Keyed.key_of c.args.item c.self.inside.items.items c.self.invariant above)
