use Rattle.wf_lists.proofs.KeyOrderLemmas.{put_key-at_place, put_key-in_gap, in_order-put}
use Rattle.wf_room.proofs.roomy.Roomy.put.Goals as goal

pub invariant_of-self : goal.invariant_of-self
invariant_of-self g c =
    let total = g.met.T.Key.Ord.total in
    let key = g.T.Keyed.key_of in
    let at = rw c.key.ensures at c.in-Ok.ensures.place in
    rw (c.replace.ensures.items, ← put_key-at_place total key c.args.item c.self.inside.items.0 c.in-Ok.place at)
    (in_order-put total key c.args.item c.self.inside.items.0 c.self.invariant)

pub returns-in-Ok-clause-items : goal.returns-in-Ok-clause-items
returns-in-Ok-clause-items g c =
    let at = rw c.key.ensures at c.in-Ok.ensures.place in
    rw (
      ← c.self.view_is,
      put_key-at_place g.met.T.Key.Ord.total g.T.Keyed.key_of c.args.item c.self.inside.items.0
          c.in-Ok.place at,
      c.replace.ensures.items,
    )

pub invariant_of-self-in-Err : goal.invariant_of-self-in-Err
invariant_of-self-in-Err g c =
    let total = g.met.T.Key.Ord.total in
    let key = g.T.Keyed.key_of in
    let at = rw c.key.ensures at c.in-Err.ensures.gap in
    rw (c.insert.ensures.items, ← put_key-in_gap total key c.args.item c.self.inside.items.0 c.in-Err.place at)
    (in_order-put total key c.args.item c.self.inside.items.0 c.self.invariant)

pub returns-in-Err-clause-items : goal.returns-in-Err-clause-items
returns-in-Err-clause-items g c =
    let at = rw c.key.ensures at c.in-Err.ensures.gap in
    rw (
      ← c.self.view_is,
      put_key-in_gap g.met.T.Key.Ord.total g.T.Keyed.key_of c.args.item c.self.inside.items.0
          c.in-Err.place at,
      c.insert.ensures.items,
    )
