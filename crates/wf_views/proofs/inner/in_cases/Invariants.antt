use Rattle.std.proofs.Common.{◌≡◌, ◌++◌, drop, map}
use Rattle.wf_def.specs.ActionSeen.{case_tree, cases_seen}
use Rattle.wf_def.specs.ActionTree.{case_trees}
use Rattle.wf_catalog.specs.References.{in_cases}
use Rattle.wf_catalog.specs.PlacesSeen.{named_tree}
use Rattle.wf_views.proofs.inner.in_cases.Given as goal

abbrev pub invariant-loop-case : goal.invariant-loop-case
invariant-loop-case l =
    map named_tree l.all.items ++ in_cases (case_trees (map case_tree (drop l.case-index l.case-items)))
    ≡ map named_tree l.fn.found.items ++ in_cases (case_trees (cases_seen l.cases))
