-- A plan as contracts see it.
use Rattle.std.specs.Prelude.{ℕ, List, [], Option, Some, None, map, option_map, slice_get}
use Rattle.std.specs.Global.{Vec}
use Rattle.wf_def.specs.Definition.{Need}
use Rattle.wf_def.specs.Layered.{listed_of, pace}
use Rattle.wf_plan.specs.Plan.{BranchTree, EntryTree, PlanTree, ShapeTree, leaf, scope, choice, foreach, until}
use Rattle.wf_plan.specs.declared.plan.Entry.{Entry}
use Rattle.wf_plan.specs.declared.plan.Plan.{Plan}
use Rattle.wf_plan.specs.declared.plan.Wait.{Wait}
use Rattle.wf_plan.specs.declared.shape.Branch.{Branch}
use Rattle.wf_plan.specs.declared.shape.Shape.{Shape}

abbrev pub lists_of : List (Vec ℕ) → List (List ℕ)
lists_of vs = map (λ v. v.items) vs

abbrev pub branch_tree : Branch → BranchTree
branch_tree b = record { own = b.own.items; all = b.all.items }

abbrev pub branches_seen : List Branch → List BranchTree
branches_seen bs = map branch_tree bs

abbrev pub shape_tree : Shape → ShapeTree
shape_tree Shape.Leaf = leaf
shape_tree (Shape.Scope g) = scope g.items
shape_tree (Shape.Choice bs) = choice (branches_seen bs.items)
shape_tree (Shape.Foreach repetitions g) = foreach (pace repetitions) g.items
shape_tree (Shape.Until count g) = until count g.items

abbrev pub wait_need : Wait → Need
wait_need w = record { name = w.number; listed = listed_of w.statuses }

abbrev pub entry_tree : Entry → EntryTree
entry_tree e = record { after = map wait_need e.after.items; shape = shape_tree e.shape; block = e.block.items }

abbrev pub entries_seen : List (Option Entry) → List (Option EntryTree)
entries_seen es = map (option_map entry_tree) es

abbrev pub plan_tree : Plan → PlanTree
plan_tree p = record {
  top = p.top.items;
  entries = entries_seen p.entries.items;
  followers = lists_of p.followers.items;
  holders = p.holders.items;
}

-- what a table has at a number; nothing past its end
abbrev pub joined : {A : Type 0} → Option (Option A) → Option A
joined None = None
joined (Some o) = o

abbrev pub at_place : {A : Type 0} → List (Option A) → ℕ → Option A
at_place table n = joined (slice_get table n)

abbrev pub or_none : Option (List ℕ) → List ℕ
or_none None = []
or_none (Some ns) = ns

abbrev pub list_at : List (List ℕ) → ℕ → List ℕ
list_at table n = or_none (slice_get table n)
