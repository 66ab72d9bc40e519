-- The tree that a `Tree` stands for.
use Rattle.std.specs.Prelude.{ℕ, List}
use Rattle.wf_template.specs.TemplateSeen.{template_tree}
use Rattle.wf_template.specs.DataTree.{DataTree, null, boolean, number, text, list, object, data_trees, data_members, DataMember}
use Rattle.wf_template.specs.declared.tree.Tree.{Tree}

-- the top of it; its items and members are seen as trees already
abbrev pub data_tree : Tree → DataTree
data_tree Tree.Null = null
data_tree (Tree.Bool b) = boolean b
data_tree (Tree.Int n) = number n
data_tree (Tree.Text t) = text (template_tree t)
data_tree (Tree.List ts) = list (data_trees ts)
data_tree (Tree.Obj fs) = object (data_members fs)

-- a member of `TreeFields`
abbrev pub data_member : List ℕ × Tree → DataMember
data_member m = (m.0, data_tree m.1)
