-- What an action's inputs hold, as contracts see it: a value of JSON (RFC 8259, section 3) with a template for each text.
use Rattle.std.specs.Prelude.{ℕ, ◌+◌, ℤ, Bool, List, [], ◌∷◌}
use Rattle.wf_template.specs.TemplateTree.{TemplateTree}

mutual
  pub data DataTree : Type 0 where
    null : DataTree
    boolean : Bool → DataTree
    number : ℤ → DataTree
    text : TemplateTree → DataTree
    list : DataTrees → DataTree
    object : DataMembers → DataTree

  pub data DataTrees : Type 0 where
    no_data : DataTrees
    data_then : DataTree → DataTrees → DataTrees

  pub data DataMembers : Type 0 where
    no_members : DataMembers
    member_then : List ℕ → DataTree → DataMembers → DataMembers

-- a member of an object: its name, and its tree
abbrev pub DataMember : Type 0
DataMember = List ℕ × DataTree

abbrev pub name_of_data : DataMember → List ℕ
name_of_data m = m.0

-- items in a row, from a list
abbrev pub data_trees : List DataTree → DataTrees
data_trees [] = no_data
data_trees (t ∷ ts) = data_then t (data_trees ts)

-- members in a row, from a list
abbrev pub data_members : List DataMember → DataMembers
data_members [] = no_members
data_members (m ∷ ms) = member_then m.0 m.1 (data_members ms)

-- how many trees there are in a tree, itself included: less in each part, so a recursion over trees ends
abbrev mutual
  pub node_count : DataTree → ℕ
  node_count null = 1
  node_count (boolean b) = 1
  node_count (number n) = 1
  node_count (text t) = 1
  node_count (list ts) = 1 + trees_count ts
  node_count (object ms) = 1 + members_count ms

  pub trees_count : DataTrees → ℕ
  trees_count no_data = 0
  trees_count (data_then t ts) = node_count t + trees_count ts

  pub members_count : DataMembers → ℕ
  members_count no_members = 0
  members_count (member_then k t ms) = node_count t + members_count ms
