use Rattle.std.proofs.Common.{subst, sym}
use Rattle.wf_metered.specs.Shown.{shown}
use Rattle.wf_drive.specs.Driven.{IsFirst}
use Rattle.wf_making.proofs.FirstLemmas.{is_first}
use Rattle.wf_making.proofs.making.Making.resumed.Goals as goal

pub returns-clause-first : goal.returns-clause-first
returns-clause-first g c =
    let a = g.A.Acts in
    let k = c.args.acts.now in
    subst (λ h. IsFirst (a.graph k) (a.source k) (a.depth k) (shown a.row_tree a.begun_tree a.decision_tree a.verdict_tree h))
    (sym c.in_ok-metered.ensures.lists) (is_first (a.graph k) (a.depth k) (a.source k) _ c.requires.resumed)
