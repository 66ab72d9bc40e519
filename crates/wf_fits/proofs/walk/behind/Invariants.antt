use Rattle.std.proofs.Common.{◌≡◌, ◌+◌, drop, map}
use Rattle.wf_def.specs.ActionSeen.{case_tree, cases_seen}
use Rattle.wf_def.specs.ActionTree.{case_trees}
use Rattle.wf_fits.specs.Walk.{behind}
use Rattle.wf_fits.proofs.walk.behind.Given as goal

abbrev pub invariant-loop-case : goal.invariant-loop-case
invariant-loop-case l = record {
  so_far :
      behind l.branch (case_trees (map case_tree (drop l._case-index l._case-items))) ≡ behind 1 (case_trees (cases_seen l.cases));
  counted : l.branch ≡ l._case-index + 1;
}
