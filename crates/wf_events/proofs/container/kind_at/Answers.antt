use Rattle.wf_tables.specs.Instances.{address_of}
use Rattle.wf_tables.specs.PlanSeen.{entry_tree, plan_tree}
use Rattle.wf_tables.specs.Tables.{count_in}
use Rattle.wf_events.proofs.ContainerLemmas.{container_looked, last_key}
use Rattle.wf_events.proofs.container.kind_at.Goals as goal

pub open_kind-requires : goal.open_kind-requires
open_kind-requires g c =
    last_key c.args.place.now c.args.opens.now.0 c.in-Some-get.open.now c.in-Some-get.ensures (address_of c.args.last.now) c.requires

pub returns-in-Some-get : goal.returns-in-Some-get
returns-in-Some-get g c =
    let a = g.A.Acts in
    container_looked c.args.place.now c.args.opens.now.0 c.in-Some-get.open.now c.in-Some-get.ensures a.decision_tree a.verdict_tree
    (a.source c.args.acts.now) (count_in c.args.lacks.now.0) (plan_tree c.args.plan.now) (entry_tree c.in-Some.entry.now) c.in-Some.ensures
    c.open_kind.result c.open_kind.ensures
