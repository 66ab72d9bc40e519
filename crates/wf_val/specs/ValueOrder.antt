-- The order of values: by kind, and within a kind by what they hold.
use Rattle.std.specs.Prelude.{ℕ}
use Rattle.std.specs.declared.cmp.Ordering.{Ordering}
use Rattle.std.specs.declared.cmp.Ordering.TheVariants.{Less, Equal, Greater}
use Rattle.std.specs.Ordering.{nat_cmp, int_cmp, bool_cmp, ordering_then}
use Rattle.wf_val.specs.NameOrder.{bytes_cmp}
use Rattle.wf_val.specs.ValueTree.{ValueTree, null, boolean, number, text, list, object, ValueTrees, no_values, value_then, MemberTrees, no_members, member_then}

-- the place of a kind among the kinds
abbrev pub rank : ValueTree → ℕ
rank null = 0
rank (boolean b) = 1
rank (number n) = 2
rank (text s) = 3
rank (list ts) = 4
rank (object ms) = 5

-- false is below true, numbers go by size and texts by bytes; lists go item by item and objects member by member,
-- by name and then by value, and where one is a front of the other, the front is below
abbrev mutual
  pub order : ValueTree → ValueTree → Ordering
  order (boolean a) (boolean b) = bool_cmp a b
  order (number a) (number b) = int_cmp a b
  order (text a) (text b) = bytes_cmp a b
  order (list a) (list b) = trees_order a b
  order (object a) (object b) = members_order a b
  order a b = nat_cmp (rank a) (rank b)

  pub trees_order : ValueTrees → ValueTrees → Ordering
  trees_order no_values no_values = Equal
  trees_order no_values (value_then b bs) = Less
  trees_order (value_then a more) no_values = Greater
  trees_order (value_then a more) (value_then b rest) = ordering_then (order a b) (trees_order more rest)

  pub members_order : MemberTrees → MemberTrees → Ordering
  members_order no_members no_members = Equal
  members_order no_members (member_then l b rest) = Less
  members_order (member_then k a more) no_members = Greater
  members_order (member_then k a more) (member_then l b rest) = ordering_then (ordering_then (bytes_cmp k l) (order a b)) (members_order more rest)
