use Rattle.std.proofs.Common.{◌≡◌, ◌++◌, drop, map}
use Rattle.wf_def.specs.ActionSeen.{case_tree, cases_seen}
use Rattle.wf_def.specs.ActionTree.{actions_in, case_trees}
use Rattle.wf_closing.specs.Inside.{case_graphs}
use Rattle.wf_closing.specs.Steps.{judged_of}
use Rattle.wf_closing.specs.StepsSeen.{judged_tree}
use Rattle.wf_closing.proofs.inside.add_cases.Given as goal

abbrev pub invariant-loop-case : goal.invariant-loop-case
invariant-loop-case l =
    map judged_tree l.graphs.items
    ++ map (λ g. judged_of (actions_in g)) (case_graphs (case_trees (map case_tree (drop l.case-index l.case-items))))
    ≡ map judged_tree l.fn.graphs.items ++ map (λ g. judged_of (actions_in g)) (case_graphs (case_trees (cases_seen l.cases)))
