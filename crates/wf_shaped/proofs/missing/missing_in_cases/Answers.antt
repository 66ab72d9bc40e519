use Rattle.std.proofs.Common.{List, ◌+◌, ◌++◌, drop, map, ap, sym, ◌∙◌, arith}
use Rattle.wf_def.specs.ActionSeen.{case_tree, graph_tree}
use Rattle.wf_def.specs.ActionTree.{ActionTree, ActionTrees, CaseTree, actions_in, case_trees}
use Rattle.wf_def.specs.declared.graph.Case.{Case, out-Case}
use Rattle.wf_def.proofs.SizeLemmas.{case_tree-is}
use Rattle.wf_record.specs.Seen.{record_tree}
use Rattle.wf_shaped.specs.Least.{least_from}
use Rattle.wf_catalog.specs.References.{in_cases}
use Rattle.wf_shaped.specs.Told.{indexes_inside, instances_of, missing}
use Rattle.wf_shaped.proofs.MissingLemmas.{cut_at, least_of_both}
use Rattle.wf_shaped.proofs.missing.missing_in_cases.Goals as goal

pub loop-case-preserved : goal.loop-case-preserved
loop-case-preserved c =
    let rows = (record_tree c.args.log.now).rows in
    let ats = indexes_inside c.args.at.now c.args.turns in
    let xs : List Case = c.as_slice-case-items.result.now in
    let item : Case = c.case-item.result in
    let so_far = c.loop-case.least.address in
    let rest : List ActionTree = in_cases (case_trees (map case_tree (drop (c.loop-case.case-index + 1) xs))) in
    ap (λ o. least_from o (missing rows (instances_of ats rest))) c.in_ok-least.ensures
    ∙ (sym (least_of_both rows so_far ats (actions_in (graph_tree (out-Case item).graph)) rest)
    ∙ (ap (λ (g : ActionTrees). least_from so_far (missing rows (instances_of ats (actions_in g ++ rest))))
    (sym (ap (λ (k : CaseTree). k.1.1) (case_tree-is item)))
    ∙ (ap (λ (zs : List Case). least_from so_far (missing rows (instances_of ats (in_cases (case_trees (map case_tree zs))))))
    (sym (cut_at xs c.loop-case.case-index item c.case-item.is (omega (arith, c.loop-case-test.true))))
    ∙ c.loop-case.invariant)))
