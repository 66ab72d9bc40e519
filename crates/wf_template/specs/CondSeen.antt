-- The tree that a `Cond` stands for.
use Rattle.std.specs.Prelude.{List, map}
use Rattle.wf_template.specs.TemplateSeen.{template_tree}
use Rattle.wf_template.specs.DataSeen.{data_tree}
use Rattle.wf_template.specs.CondTree.{CondTree, holds, all_of, any_of, not_of, compare_by, cond_trees}
use Rattle.wf_template.specs.declared.cond.Cond.{Cond, Cond-F, fold-Cond}
use Rattle.wf_template.specs.declared.cond.Cond.TheOpen.{Conds-F}
use Rattle.wf_template.specs.declared.cond.Conds.{Conds, out-Conds}

-- the top of a condition, whose parts are seen already
abbrev pub cond_step : Cond-F CondTree (List CondTree) → CondTree
cond_step (Cond-F.Text t) = holds (template_tree t)
cond_step (Cond-F.And cs) = all_of (cond_trees cs)
cond_step (Cond-F.Or cs) = any_of (cond_trees cs)
cond_step (Cond-F.Not c) = not_of c.value
cond_step (Cond-F.Compare fun left right) = compare_by fun (data_tree left) (data_tree right)

abbrev pub conds_step : Conds-F CondTree (List CondTree) → List CondTree
conds_step a = a.items.items

abbrev pub cond_tree : Cond → CondTree
cond_tree = fold-Cond CondTree (List CondTree) cond_step conds_step

abbrev pub conds_seen : Conds → List CondTree
conds_seen cs = map cond_tree (out-Conds cs).items.items
