use Rattle.wf_lists.proofs.KeyOrderLemmas.{find_key-at_place, find_key-in_gap, put_key-at_place, in_order-put}
use Rattle.wf_room.proofs.CellLemmas.{index-get}
use Rattle.wf_room.proofs.roomy.Roomy.replace.Goals as goal

pub invariant_of-self : goal.invariant_of-self
invariant_of-self g c =
    let total = g.met.T.Key.Ord.total in
    let key = g.T.Keyed.key_of in
    let at = rw c.key.ensures at c.in-Ok.ensures.place in
    rw (c.replace.ensures.items, ← put_key-at_place total key c.args.item c.self.inside.items.0 c.in-Ok.place at)
    (in_order-put total key c.args.item c.self.inside.items.0 c.self.invariant)

pub returns-in-Ok-clause-before : goal.returns-in-Ok-clause-before
returns-in-Ok-clause-before g c =
    let at = rw c.key.ensures at c.in-Ok.ensures.place in
    rw (
      ← c.self.view_is,
      find_key-at_place g.met.T.Key.Ord.total g.T.Keyed.key_of (g.T.Keyed.key_of c.args.item) c.self.inside.items.0
          c.in-Ok.place c.replace.result at,
      index-get c.self.inside.items.0 c.in-Ok.place c.replace.result c.replace.ensures.before,
    )

pub returns-in-Ok-clause-ok : goal.returns-in-Ok-clause-ok
returns-in-Ok-clause-ok g c =
    let at = rw c.key.ensures at c.in-Ok.ensures.place in
    rw (
      ← c.self.view_is,
      put_key-at_place g.met.T.Key.Ord.total g.T.Keyed.key_of c.args.item c.self.inside.items.0 c.in-Ok.place at,
      c.replace.ensures.items,
    )

pub returns-in-Err-clause-absent : goal.returns-in-Err-clause-absent
returns-in-Err-clause-absent g c =
    let at = rw c.key.ensures at c.in-Err.ensures.gap in
    rw (
      ← c.self.view_is,
      find_key-in_gap g.met.T.Key.Ord.total g.T.Keyed.key_of (g.T.Keyed.key_of c.args.item) c.self.inside.items.0
          c.in-Err.field-0 at,
    )
