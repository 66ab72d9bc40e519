-- How many values a list and an object hold, at every level.
use Rattle.std.specs.Prelude.{ℕ, List}
use Rattle.wf_val.specs.ValueTree.{ValueTree, trees, trees_count, Member, members, members_count}

abbrev pub count_of_list : List ValueTree → ℕ
count_of_list ts = trees_count (trees ts)

abbrev pub count_of_members : List Member → ℕ
count_of_members ms = members_count (members ms)
