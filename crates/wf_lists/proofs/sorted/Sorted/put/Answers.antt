use Rattle.std.proofs.Common.{cond, true, false, is_ok, insert}
use Rattle.wf_lists.specs.KeyOrder.{IsInKeyOrder}
use Rattle.wf_lists.proofs.KeyOrderLemmas.{put_key-at_place, put_key-in_gap, in_order-put}
use Rattle.wf_lists.proofs.sorted.Sorted.put.Goals as goal

pub invariant_of-self : goal.invariant_of-self
invariant_of-self g c =
    let total = g.met.T.Key.Ord.total in
    let key = g.T.Keyed.key_of in
    let at = rw (c.deref.ensures.value, c.key.ensures) at c.in-Ok.ensures.place in
    rw (← put_key-at_place total key c.args.item c.self.inside.items.items c.in-Ok.place at) (in_order-put total key c.args.item c.self.inside.items.items c.self.invariant)

pub returns-in-Ok-clause-ok : goal.returns-in-Ok-clause-ok
returns-in-Ok-clause-ok g c =
    let at = rw (c.deref.ensures.value, c.key.ensures) at c.in-Ok.ensures.place in
    rw (← c.self.view_is, put_key-at_place g.met.T.Key.Ord.total g.T.Keyed.key_of c.args.item c.self.inside.items.items c.in-Ok.place at)

pub invariant_of-self-in-Err : goal.invariant_of-self-in-Err
invariant_of-self-in-Err g c =
    let total = g.met.T.Key.Ord.total in
    let key = g.T.Keyed.key_of in
    let xs = c.self.inside.items.items in
    let at = rw (c.deref.ensures.value, c.key.ensures) at c.in-Err.ensures.gap in
    rw c.insert.ensures.items (elim (is_ok c.insert.result) as (λ b. IsInKeyOrder g.T.Key.Ord.cmp key (cond b (insert xs c.in-Err.place c.args.item) xs)) [
      | true ↦ rw (← put_key-in_gap total key c.args.item xs c.in-Err.place at) (in_order-put total key c.args.item xs c.self.invariant)
      | false ↦ c.self.invariant
    ])

pub returns-in_ok-insert-in-Err-clause-ok : goal.returns-in_ok-insert-in-Err-clause-ok
returns-in_ok-insert-in-Err-clause-ok g c =
    let at = rw (c.deref.ensures.value, c.key.ensures) at c.in-Err.ensures.gap in
    rw (← c.self.view_is, put_key-in_gap g.met.T.Key.Ord.total g.T.Keyed.key_of c.args.item c.self.inside.items.items c.in-Err.place at, c.in_ok-insert-in-Err.ensures.items)
