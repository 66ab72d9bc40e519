use Rattle.std.proofs.Common.{◌∙◌, length, refl, ap}
use Rattle.wf_metered.specs.Shown.{shown}
use Rattle.wf_drive_laws.proofs.LeafLemmas.{leaves_run}
use Rattle.wf_making.proofs.making.MakingMachine.running.Goals as goal

pub returns : goal.returns
returns g c =
    let a = g.A.Acts in
    let k = c.args.self.now in
    let order = rw c.state-kept.ensures at c.is_listed.ensures.running in
    let run = leaves_run a.begun_tree k.1.1.0 order (shown a.row_tree a.begun_tree a.decision_tree a.verdict_tree k.1) refl in
    let count = rw c.state-kept.ensures at c.running.ensures in (run.0, run.1, count ∙ run.2)
