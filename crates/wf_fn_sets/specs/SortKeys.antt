-- What items are sorted by.
use Rattle.std.specs.Prelude.{pos}
use Rattle.wf_val.specs.Seen.{tree}
use Rattle.wf_val.specs.ValueTree.{ValueTree, number, text}
use Rattle.wf_fn_sets.specs.declared.sorting.Keyed.{Keyed}
use Rattle.wf_fn_sets.specs.declared.sorting.SortKey.{SortKey}

abbrev pub key_tree : SortKey → ValueTree
key_tree (SortKey.Number n) = number n
key_tree (SortKey.Text s) = text s.now

-- a number or a text; in place of anything else 0
abbrev pub number_or_text : ValueTree → ValueTree
number_or_text (number n) = number n
number_or_text (text s) = text s
number_or_text t = number (pos 0)

-- an item with what it is sorted by, as trees
abbrev pub keyed_trees : Keyed → ValueTree × ValueTree
keyed_trees e = (key_tree e.key, tree e.item.now)
