-- How many trees a list and an object hold, at every level.
use Rattle.std.specs.Prelude.{ℕ, List}
use Rattle.wf_template.specs.DataTree.{DataTree, data_trees, trees_count, DataMember, data_members, members_count}

abbrev pub count_of_list : List DataTree → ℕ
count_of_list ts = trees_count (data_trees ts)

abbrev pub count_of_members : List DataMember → ℕ
count_of_members ms = members_count (data_members ms)
