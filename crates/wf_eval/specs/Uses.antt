-- WHAT A TEMPLATE, A TREE OR A CONDITION ASKS A LOOK FOR: what its expressions do.
use Rattle.std.specs.Prelude.{List, [], ◌∷◌, ◌++◌}
use Rattle.wf_template.specs.TemplateTree.{PieceTree, letters, part, TemplateTree, plain, whole, parts}
use Rattle.wf_template.specs.DataTree as inputs
use Rattle.wf_template.specs.CondTree.{CondTree, holds, all_of, any_of, not_of, compare_by, CondTrees, no_conds, cond_then}
use Rattle.wf_eval_expr.specs.Uses.{Use, uses}

abbrev pub piece_use : PieceTree → List Use
piece_use (letters s) = []
piece_use (part e) = uses e

abbrev pub piece_uses : List PieceTree → List Use
piece_uses [] = []
piece_uses (p ∷ ps) = piece_use p ++ piece_uses ps

abbrev pub template_uses : TemplateTree → List Use
template_uses (plain s) = []
template_uses (whole e) = uses e
template_uses (parts ps) = piece_uses ps

abbrev mutual
  pub tree_uses : inputs.DataTree → List Use
  tree_uses inputs.null = []
  tree_uses (inputs.boolean b) = []
  tree_uses (inputs.number i) = []
  tree_uses (inputs.text t) = template_uses t
  tree_uses (inputs.list ts) = trees_uses ts
  tree_uses (inputs.object ms) = members_uses ms

  pub trees_uses : inputs.DataTrees → List Use
  trees_uses inputs.no_data = []
  trees_uses (inputs.data_then t ts) = tree_uses t ++ trees_uses ts

  pub members_uses : inputs.DataMembers → List Use
  members_uses inputs.no_members = []
  members_uses (inputs.member_then k t ms) = tree_uses t ++ members_uses ms

abbrev mutual
  pub cond_uses : CondTree → List Use
  cond_uses (holds t) = template_uses t
  cond_uses (all_of cs) = conds_uses cs
  cond_uses (any_of cs) = conds_uses cs
  cond_uses (not_of c) = cond_uses c
  cond_uses (compare_by f left right) = tree_uses left ++ tree_uses right

  pub conds_uses : CondTrees → List Use
  conds_uses no_conds = []
  conds_uses (cond_then c cs) = cond_uses c ++ conds_uses cs
