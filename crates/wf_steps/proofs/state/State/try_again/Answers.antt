use Rattle.std.proofs.Common.{◌+◌, arith}
use Rattle.wf_events.specs.Instances.{address_of}
use Rattle.wf_steps.proofs.QuietLemmas.{fewer, none_runs, try_kept, try_goes}
use Rattle.wf_steps.proofs.state.State.try_again.Goals as goal

pub overflow_add-made : goal.overflow_add-made
overflow_add-made g c =
    let s = c.self.inside in
    let a = g.A.Acts in
    let may = rw (← c.self.view_is) at c.requires in
    let less = fewer a.row_tree a.begun_tree a.decision_tree a.verdict_tree (a.graph s.acts.now) (a.source s.acts.now) (a.depth s.acts.now) (a.writes s.acts.now)
    s.rows.0 s.running.0 s.opens.0 s.store.0 s.waits.0 s.lacks.0 s.ready.0 c.self.invariant.1 c.args.place.now may
    (rw c.in_ok-make_room.ensures.items at c.in-Some.ensures.in_order) c.in-Some.leaf
    (rw c.in_ok-make_room.ensures.items at c.in-Some.ensures.item) in
    let bound = c.is_instance.ensures.counted (address_of c.args.place.now) (a.begun_tree c.in-Some.leaf.begun) in
    omega (arith, less, bound)

pub invariant_of-self-in-Some : goal.invariant_of-self-in-Some
invariant_of-self-in-Some g c =
    let s = c.self.inside in
    let a = g.A.Acts in
    let may = rw (← c.self.view_is) at c.requires in
    rw (
      c.put.ensures.items,
      c.in-Some.ensures.rest,
      c.in_ok-make_room.ensures.items,
      c.put-in-Some.ensures.items,
      c.in_ok-make_room-2.ensures.items,
      c.in_ok-runs.ensures,
      c.in_ok-next.ensures,
    ) (
      c.self.invariant.0,
      try_kept a.row_tree a.begun_tree a.decision_tree a.verdict_tree (a.graph s.acts.now) (a.source s.acts.now) (a.depth s.acts.now) (a.writes s.acts.now)
          s.rows.0 s.running.0 s.opens.0 s.store.0 s.waits.0 s.lacks.0 s.ready.0 c.self.invariant.1 c.args.place.now may
          (rw c.in_ok-make_room.ensures.items at c.in-Some.ensures.in_order) c.in-Some.leaf
          (rw c.in_ok-make_room.ensures.items at c.in-Some.ensures.item) (c.in-Some.leaf.tries + 1) (omega arith) c.next_kind-kind.result
          c.next_kind-kind.ensures,
    )

pub invariant_of-self-in-None-1 : goal.invariant_of-self-in-None-1
invariant_of-self-in-None-1 g c =
    let s = c.self.inside in
    let a = g.A.Acts in
    let may = rw (← c.self.view_is) at c.requires in
    absurd (none_runs a.row_tree a.begun_tree a.decision_tree a.verdict_tree (a.graph s.acts.now) (a.source s.acts.now) (a.depth s.acts.now) (a.writes s.acts.now)
    s.rows.0 s.running.0 s.opens.0 s.store.0 s.waits.0 s.lacks.0 s.ready.0 c.self.invariant.1 c.args.place.now may
    (rw c.in_ok-make_room.ensures.items at c.in-None.ensures.item))

pub returns-in-Some-clause-ok : goal.returns-in-Some-clause-ok
returns-in-Some-clause-ok g c =
    let s = c.self.inside in
    let a = g.A.Acts in
    let may = rw (← c.self.view_is) at c.requires in
    rw (← c.self.view_is, c.put.ensures.items, c.in-Some.ensures.rest, c.in_ok-make_room.ensures.items, c.in_ok-runs.ensures)
    (try_goes a.row_tree a.begun_tree a.decision_tree a.verdict_tree (a.graph s.acts.now) (a.source s.acts.now) (a.depth s.acts.now) (a.writes s.acts.now)
    s.rows.0 s.running.0 s.opens.0 s.store.0 s.waits.0 s.lacks.0 s.ready.0 c.self.invariant.1 c.args.place.now may
    (rw c.in_ok-make_room.ensures.items at c.in-Some.ensures.in_order) c.in-Some.leaf
    (rw c.in_ok-make_room.ensures.items at c.in-Some.ensures.item) (c.in-Some.leaf.tries + 1) (omega arith))

pub returns-in-None-clause-ok : goal.returns-in-None-clause-ok
returns-in-None-clause-ok g c =
    let s = c.self.inside in
    let a = g.A.Acts in
    let may = rw (← c.self.view_is) at c.requires in
    absurd (none_runs a.row_tree a.begun_tree a.decision_tree a.verdict_tree (a.graph s.acts.now) (a.source s.acts.now) (a.depth s.acts.now) (a.writes s.acts.now)
    s.rows.0 s.running.0 s.opens.0 s.store.0 s.waits.0 s.lacks.0 s.ready.0 c.self.invariant.1 c.args.place.now may
    (rw c.in_ok-make_room.ensures.items at c.in-None.ensures.item))
