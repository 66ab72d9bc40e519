use Rattle.std.proofs.Common.{◌≡◌, ◌++◌, drop, map}
use Rattle.wf_def.specs.ActionSeen.{case_tree, cases_seen}
use Rattle.wf_def.specs.ActionTree.{case_trees}
use Rattle.wf_plan.specs.Plan.{case_branches}
use Rattle.wf_plan.specs.PlanSeen.{branches_seen}
use Rattle.wf_plan.proofs.shape.cases_of.Given as goal

abbrev pub invariant-loop-case : goal.invariant-loop-case
invariant-loop-case l =
    branches_seen l.branches.items ++ case_branches (case_trees (map case_tree (drop l.case-index l.case-items)))
    ≡ case_branches (case_trees (cases_seen l.cases))
