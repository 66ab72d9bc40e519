use Rattle.std.proofs.Common.{ℕ, List, Option, ◌+◌, length, map, drop, ap, sym, ◌∙◌, arith}
use Rattle.wf_def.specs.ActionSeen.{action_tree}
use Rattle.wf_def.specs.ActionTree.{action_number}
use Rattle.wf_def.specs.declared.graph.Action.{Action, out-Action}
use Rattle.wf_def.proofs.SizeLemmas.{drop_at_place}
use Rattle.wf_plan.specs.Plan.{EntryTree, entry_of}
use Rattle.wf_plan.specs.PlanSeen.{entries_seen}
use Rattle.wf_plan.specs.Walk.{all_entered, take_place}
use Rattle.wf_plan.specs.declared.plan.Entry.{Entry}
use Rattle.wf_plan.proofs.ShapeLemmas.{action_tree-is}
use Rattle.wf_plan.proofs.TableLemmas.{entered_seen, free_seen}
use Rattle.wf_plan.proofs.plan.entries_of.Goals as goal

pub loop-action-init : goal.loop-action-init
loop-action-init c =
    let xs = c.args.actions.now in
    ap (λ (es : List (Option EntryTree)). all_entered es (map (λ a. action_tree a.now) xs))
    (ap entries_seen c.in_ok-table.ensures ∙ free_seen (length xs))

pub loop-action-preserved : goal.loop-action-preserved
loop-action-preserved c =
    let xs = c.args.actions.now in
    let i = c.loop-action.action-index in
    let item = c.action-item.result in
    let a : Action = item.now in
    let so_far : List (Option Entry) = c.loop-action.table.items in
    let left = map (λ z. action_tree z.now) (drop (i + 1) xs) in
    let here = drop_at_place xs i item (omega arith) c.action-item.is in
    ap (λ (t : List (Option Entry)). all_entered (entries_seen t) left) c.take_place.ensures
    ∙ ap (λ (es : List (Option EntryTree)). all_entered es left) (entered_seen so_far (out-Action a).number c.in_ok-entry.entry)
    ∙ ap (λ (e : EntryTree). all_entered (take_place (entries_seen so_far) (out-Action a).number e) left) c.in_ok-entry.ensures
    ∙ ap (λ (n : ℕ). all_entered (take_place (entries_seen so_far) n (entry_of (action_tree a))) left)
    (sym (ap action_number (action_tree-is a)))
    ∙ sym (ap (λ ys. all_entered (entries_seen so_far) (map (λ z. action_tree z.now) ys)) here)
    ∙ c.loop-action.invariant
