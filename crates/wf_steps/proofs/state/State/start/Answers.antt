use Rattle.wf_steps.proofs.QuietLemmas.{start_kept, start_goes}
use Rattle.wf_layers.specs.Definition.{Leaf}
use Rattle.wf_events.specs.Known.{store_in}
use Rattle.wf_events.specs.Tables.{state_of}
use Rattle.wf_steps.proofs.InformedLemmas.{decided_is_informed, decided_holds_last}
use Rattle.wf_steps.proofs.state.State.start.Goals as goal

pub invariant_of-self-2 : goal.invariant_of-self-2
invariant_of-self-2 g c =
    let s = c.self.inside in
    let a = g.A.Acts in
    let may = rw (← c.self.view_is) at c.requires in
    rw (
      c.put.ensures.items,
      c.in_ok-make_room.ensures.items,
      c.put-2.ensures.items,
      c.in_ok-make_room-2.ensures.items,
      c.in_ok-runs.ensures,
      c.in_ok-next.ensures,
    ) (
      c.self.invariant.0,
      start_kept a.row_tree a.begun_tree a.decision_tree a.verdict_tree (a.graph s.acts.now) (a.source s.acts.now) (a.depth s.acts.now) (a.writes s.acts.now)
          s.rows.0 s.running.0 s.opens.0 s.store.0 s.waits.0 s.lacks.0 s.ready.0 c.self.invariant.1 c.args.place.now may c.in_ok-begun.begun
          c.in_ok-begun.ensures c.next_kind-kind.result c.next_kind-kind.ensures,
    )

pub returns-clause-ok : goal.returns-clause-ok
returns-clause-ok g c =
    let s = c.self.inside in
    let a = g.A.Acts in
    let may = rw (← c.self.view_is) at c.requires in
    rw (← c.self.view_is, c.put.ensures.items, c.in_ok-make_room.ensures.items, c.in_ok-runs.ensures)
    (start_goes a.row_tree a.begun_tree a.decision_tree a.verdict_tree (a.graph s.acts.now) (a.source s.acts.now) (a.depth s.acts.now) (a.writes s.acts.now)
    s.rows.0 s.running.0 s.opens.0 s.store.0 s.waits.0 s.lacks.0 s.ready.0 c.self.invariant.1 c.args.place.now may c.in_ok-begun.begun
    c.in_ok-begun.ensures)

pub start-requires-clause-informed : goal.start-requires-clause-informed
start-requires-clause-informed g c =
    let s = c.self.inside in
    let a = g.A.Acts in
    let may = rw (← c.self.view_is) at c.requires in
    decided_is_informed (a.graph s.acts.now) (a.depth s.acts.now) (a.source s.acts.now)
    (state_of a.row_tree a.begun_tree a.decision_tree a.verdict_tree s.rows.0 s.running.0 s.opens.0) c.self.invariant.1.reached
    c.args.place.now.action c.args.place.now.at may.1.0 Leaf may.1.1

pub start-requires-clause-last : goal.start-requires-clause-last
start-requires-clause-last g c =
    let s = c.self.inside in
    let a = g.A.Acts in
    let may = rw (← c.self.view_is) at c.requires in
    decided_holds_last (a.graph s.acts.now) (a.depth s.acts.now) (a.source s.acts.now)
    (state_of a.row_tree a.begun_tree a.decision_tree a.verdict_tree s.rows.0 s.running.0 s.opens.0) c.self.invariant.1.reached
    (a.writes s.acts.now) c.is_instance.ensures.ordered (store_in s.store.0) c.self.invariant.1.stored
    c.args.place.now.action c.args.place.now.at may.1.0 Leaf may.1.1
