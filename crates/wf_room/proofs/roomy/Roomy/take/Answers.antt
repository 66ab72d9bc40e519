use Rattle.wf_lists.proofs.KeyOrderLemmas.{find_key-at_place, find_key-in_gap, without_key-at_place, without_key-in_gap, in_order-without}
use Rattle.wf_room.proofs.CellLemmas.{index-get}
use Rattle.wf_room.proofs.roomy.Roomy.take.Goals as goal

pub invariant_of-self : goal.invariant_of-self
invariant_of-self g c =
    let total = g.met.T.Key.Ord.total in
    let key = g.T.Keyed.key_of in
    let at = c.in-Ok.ensures.place in
    rw (c.remove.ensures.rest, ← without_key-at_place total key c.args.key.now c.self.inside.items.0 c.in-Ok.place at)
    (in_order-without total key c.args.key.now c.self.inside.items.0 c.self.invariant)

pub returns-in-Ok-clause-item : goal.returns-in-Ok-clause-item
returns-in-Ok-clause-item g c =
    let at = c.in-Ok.ensures.place in
    rw (
      ← c.self.view_is,
      find_key-at_place g.met.T.Key.Ord.total g.T.Keyed.key_of c.args.key.now c.self.inside.items.0
          c.in-Ok.place c.remove.result at,
      index-get c.self.inside.items.0 c.in-Ok.place c.remove.result c.remove.ensures.item,
    )

pub returns-in-Ok-clause-rest : goal.returns-in-Ok-clause-rest
returns-in-Ok-clause-rest g c =
    let at = c.in-Ok.ensures.place in
    rw (
      ← c.self.view_is,
      without_key-at_place g.met.T.Key.Ord.total g.T.Keyed.key_of c.args.key.now c.self.inside.items.0
          c.in-Ok.place at,
      c.remove.ensures.rest,
    )

pub returns-in-Err-clause-item : goal.returns-in-Err-clause-item
returns-in-Err-clause-item g c =
    let at = c.in-Err.ensures.gap in
    rw (← c.self.view_is, find_key-in_gap g.met.T.Key.Ord.total g.T.Keyed.key_of c.args.key.now c.self.inside.items.0 c.in-Err.field-0 at)

pub returns-in-Err-clause-rest : goal.returns-in-Err-clause-rest
returns-in-Err-clause-rest g c =
    let at = c.in-Err.ensures.gap in
    rw (
      ← c.self.view_is,
      without_key-in_gap g.met.T.Key.Ord.total g.T.Keyed.key_of c.args.key.now c.self.inside.items.0
          c.in-Err.field-0 at,
    )
