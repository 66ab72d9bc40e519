use Rattle.wf_lists.proofs.KeyOrderLemmas.{find_key-at_place, find_key-in_gap}
use Rattle.wf_room.proofs.CellLemmas.{index-get}
use Rattle.wf_room.proofs.roomy.Roomy.get.Goals as goal

pub returns-in-Ok : goal.returns-in-Ok
returns-in-Ok g c =
    let at = c.in-Ok.ensures.place in
    rw (
      ← c.self.view_is,
      find_key-at_place g.met.T.Key.Ord.total g.T.Keyed.key_of c.args.key.now c.self.inside.items.0
          c.in-Ok.place c.at.result.now at,
      index-get c.self.inside.items.0 c.in-Ok.place c.at.result.now c.at.ensures,
    )

pub returns-in-Err : goal.returns-in-Err
returns-in-Err g c =
    let at = c.in-Err.ensures.gap in
    rw (← c.self.view_is, find_key-in_gap g.met.T.Key.Ord.total g.T.Keyed.key_of c.args.key.now c.self.inside.items.0 c.in-Err.field-0 at)
