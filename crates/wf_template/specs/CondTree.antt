-- A condition as contracts see it (Workflow Definition Language, "Conditions").
use Rattle.std.specs.Prelude.{List, [], ◌∷◌}
use Rattle.wf_val.specs.declared.function.Fun.{Fun}
use Rattle.wf_template.specs.TemplateTree.{TemplateTree}
use Rattle.wf_template.specs.DataTree.{DataTree}

mutual
  pub data CondTree : Type 0 where
    holds : TemplateTree → CondTree
    all_of : CondTrees → CondTree
    any_of : CondTrees → CondTree
    not_of : CondTree → CondTree
    compare_by : Fun → DataTree → DataTree → CondTree

  pub data CondTrees : Type 0 where
    no_conds : CondTrees
    cond_then : CondTree → CondTrees → CondTrees

-- conditions in a row, from a list
abbrev pub cond_trees : List CondTree → CondTrees
cond_trees [] = no_conds
cond_trees (c ∷ cs) = cond_then c (cond_trees cs)
