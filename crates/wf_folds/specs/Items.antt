-- The distinct items of lists, put together as the lists come.
use Rattle.std.specs.Prelude.{Bool, true, false, List, []}
use Rattle.std.specs.BTreeSet.{insert_key}
use Rattle.std.specs.List.{fold}
use Rattle.wf_val.specs.ValueOrder.{order}
use Rattle.wf_val.specs.ValueTree.{ValueTree}
use Rattle.wf_fn_list.specs.Membership.{is_among}
use Rattle.wf_functions.specs.Collected.{Collected, nothing, with_item}

-- the distinct items so far in order of first occurrence, measured as they are put together, and all of them in the order of values
abbrev pub Items : Type 0
Items = Collected × List ValueTree

abbrev pub no_items : Items
no_items = (nothing, [])

-- an item more: one that is there already changes nothing
abbrev pub with_one : Items → ValueTree → Bool → Items
with_one u x true = u
with_one u x false = (with_item x u.0, insert_key order u.1 x)

abbrev pub one_more : Items → ValueTree → Items
one_more u x = with_one u x (is_among u.1 x)

-- the items of a list more
abbrev pub items_more : List ValueTree → Items → Items
items_more xs u = fold one_more u xs
