use Rattle.std.proofs.Common.{◌≡◌, ◌+◌, drop, map}
use Rattle.wf_val.specs.Seen.{tree}
use Rattle.wf_def.specs.ActionSeen.{case_tree, cases_seen}
use Rattle.wf_def.specs.ActionTree.{case_trees}
use Rattle.wf_opening.specs.Decisions.{branch_from}
use Rattle.wf_says.proofs.told.case_of.Given as goal

-- the branch among the cases that are left is the branch
abbrev pub invariant-loop-case : goal.invariant-loop-case
invariant-loop-case l = record {
  so_far :
      branch_from l.branch (case_trees (map case_tree (drop l.case-index l.case-items))) (tree l.value)
      ≡ branch_from 1 (case_trees (cases_seen l.cases)) (tree l.value);
  counted : l.branch ≡ l.case-index + 1;
}
