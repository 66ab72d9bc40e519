use Rattle.std.proofs.Common.{◌≡◌, drop, map}
use Rattle.wf_def.specs.ActionSeen.{case_tree, cases_seen}
use Rattle.wf_def.specs.ActionTree.{case_trees}
use Rattle.wf_record.specs.Seen.{record_tree}
use Rattle.wf_shaped.specs.Least.{least_from}
use Rattle.wf_catalog.specs.References.{in_cases}
use Rattle.wf_shaped.specs.Told.{indexes_inside, instances_of, missing}
use Rattle.wf_shaped.proofs.missing.missing_in_cases.Given as goal

abbrev pub invariant-loop-case : goal.invariant-loop-case
invariant-loop-case l =
    least_from l.least.address (missing (record_tree l.log).rows
    (instances_of (indexes_inside l.at l.turns) (in_cases (case_trees (map case_tree (drop l.case-index l.case-items))))))
    ≡ least_from l.fn.least.address (missing (record_tree l.log).rows
    (instances_of (indexes_inside l.at l.turns) (in_cases (case_trees (cases_seen l.cases)))))
