use Rattle.std.proofs.Common.{ℕ, List, [], ◌++◌, ◌+◌, cond, drop, append_assoc, ap, sym, ◌∙◌, arith}
use Rattle.wf_def.specs.Definition.{is_one}
use Rattle.wf_def.proofs.SizeLemmas.{drop_at_place}
use Rattle.wf_plan.specs.Plan.{BranchTree, passed_but}
use Rattle.wf_plan.specs.PlanSeen.{branches_seen}
use Rattle.wf_plan.specs.declared.shape.Branch.{Branch}
use Rattle.wf_plan.proofs.GraphLemmas.{less_is}
use Rattle.wf_plan.proofs.shape.passed_but.Goals as goal

pub loop-branch-preserved : goal.loop-branch-preserved
loop-branch-preserved c =
    let xs : List Branch = c.args.branches.now in
    let i = c.loop-branch.branch-index in
    let item : Branch = c.branch-item.result in
    let so_far : List ℕ = c.loop-branch.numbers.items in
    let next = c.loop-branch.next in
    let this : List ℕ = cond (is_one next) [] item.all.items in
    let left : List BranchTree = branches_seen (drop (i + 1) xs) in
    let less = c.saturating_sub-next.result in
    let here = drop_at_place xs i item (omega arith) c.branch-item.is in
    ap (λ (ns : List ℕ). ns ++ passed_but left less) c.in_ok-add_passed.ensures
    ∙ append_assoc so_far this (passed_but left less)
    ∙ ap (λ k. so_far ++ (this ++ passed_but left k)) (c.saturating_sub-next.ensures ∙ sym (less_is next))
    ∙ sym (ap (λ (ys : List Branch). so_far ++ passed_but (branches_seen ys) next) here)
    ∙ c.loop-branch.invariant
