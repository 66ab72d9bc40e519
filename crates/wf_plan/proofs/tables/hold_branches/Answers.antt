use Rattle.std.proofs.Common.{ℕ, List, Option, ◌+◌, drop, ap, sym, ◌∙◌, arith}
use Rattle.wf_def.proofs.SizeLemmas.{drop_at_place}
use Rattle.wf_plan.specs.PlanSeen.{branches_seen}
use Rattle.wf_plan.specs.declared.shape.Branch.{Branch}
use Rattle.wf_plan.specs.Walk.{all_own, held}
use Rattle.wf_plan.proofs.TableLemmas.{held_both}
use Rattle.wf_plan.proofs.tables.hold_branches.Goals as goal

pub loop-branch-preserved : goal.loop-branch-preserved
loop-branch-preserved c =
    let xs : List Branch = c.args.branches.now in
    let i = c.loop-branch.branch-index in
    let item : Branch = c.branch-item.result in
    let b = c.args.holder in
    let so_far : List (Option ℕ) = c.loop-branch.table.items in
    let left : List ℕ = all_own (branches_seen (drop (i + 1) xs)) in
    let here = drop_at_place xs i item (omega arith) c.branch-item.is in
    ap (λ (t : List (Option ℕ)). held t left b) c.hold.ensures
    ∙ ap (λ (ns : List ℕ). held (held so_far ns b) left b) c.deref.ensures.value
    ∙ sym (held_both so_far item.own.items left b)
    ∙ sym (ap (λ (ys : List Branch). held so_far (all_own (branches_seen ys)) b) here)
    ∙ c.loop-branch.invariant
