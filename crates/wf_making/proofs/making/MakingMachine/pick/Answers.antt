use Rattle.wf_metered.specs.Shown.{shown}
use Rattle.wf_drive_laws.proofs.PickLemmas.{picked}
use Rattle.wf_making.proofs.making.MakingMachine.pick.Goals as goal

pub returns-clause-picked : goal.returns-clause-picked
returns-clause-picked g c =
    let a = g.A.Acts in
    let k = c.args.self.now in
    let reached = rw c.state-kept.ensures at c.is_reached.ensures in
    let found = rw c.state-kept.ensures at c.pick-found.ensures.picked in
    rw c.in_ok-instance.ensures (picked (a.graph k.0) (a.depth k.0) (a.source k.0)
    (shown a.row_tree a.begun_tree a.decision_tree a.verdict_tree k.1) reached c.args.place _ found)
