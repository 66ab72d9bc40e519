-- Which values are of a type of parameters and variables.
use Rattle.std.specs.Prelude.{Bool, true, false}
use Rattle.wf_val.specs.ValueTree.{ValueTree, boolean, number, text, list, object}
use Rattle.wf_def.specs.declared.sort.Sort.{Sort}

-- null is of no type
abbrev pub has_sort : Sort → ValueTree → Bool
has_sort Sort.Bool (boolean b) = true
has_sort Sort.Int (number n) = true
has_sort Sort.Text (text s) = true
has_sort Sort.List (list ts) = true
has_sort Sort.Obj (object ms) = true
has_sort sort t = false
