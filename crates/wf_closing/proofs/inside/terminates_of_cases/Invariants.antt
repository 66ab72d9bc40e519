use Rattle.std.proofs.Common.{◌≡◌, ◌++◌, drop, filter, map}
use Rattle.wf_def.specs.ActionSeen.{case_tree, cases_seen}
use Rattle.wf_def.specs.ActionTree.{action_kind, action_number, case_trees}
use Rattle.wf_def.specs.AllActions.{cases_actions}
use Rattle.wf_meant.specs.Containers.{is_terminate}
use Rattle.wf_closing.proofs.inside.terminates_of_cases.Given as goal

abbrev pub invariant-loop-case : goal.invariant-loop-case
invariant-loop-case l =
    l.numbers.items
    ++ map action_number
    (filter (λ a. is_terminate (action_kind a)) (cases_actions (case_trees (map case_tree (drop l.case-index l.case-items)))))
    ≡ l.fn.numbers.items
    ++ map action_number (filter (λ a. is_terminate (action_kind a)) (cases_actions (case_trees (cases_seen l.cases))))
