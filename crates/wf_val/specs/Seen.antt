-- The tree that a `Val` stands for.
use Rattle.std.specs.Prelude.{ℕ, List}
use Rattle.wf_val.specs.ValueTree.{ValueTree, null, boolean, number, text, list, object, trees, members, Member}
use Rattle.wf_val.specs.declared.val.Val.{Val}

-- the top of the value; its items and members are seen as trees already
abbrev pub tree : Val → ValueTree
tree Val.Null = null
tree (Val.Bool b) = boolean b
tree (Val.Int n) = number n
tree (Val.Text s) = text s
tree (Val.List vs) = list (trees vs)
tree (Val.Obj fs) = object (members fs)

-- a member of `Fields`
abbrev pub member : List ℕ × Val → Member
member m = (m.0, tree m.1)
