-- THE TYPES OF VARIABLES: the values of one type, its name, and the value with which a variable of it begins.
use Rattle.std.specs.Prelude.{ℕ, pos, Bool, false, List, [], Ok, Err, codes, if◌then◌else◌}
use Rattle.wf_val.specs.Arguments.{Answer, wrong_type}
use Rattle.wf_val.specs.ValueTree.{ValueTree, null, boolean, number, text, list, object, no_values, no_members}
use Rattle.wf_val.specs.declared.function.Fun.{Fun}
use Rattle.wf_def.specs.Sorts.{has_sort}
use Rattle.wf_def.specs.declared.sort.Sort.{Sort}

-- the value, where it is of the type; else a fault
abbrev pub of_sort : Sort → ValueTree → Answer
of_sort s t = if has_sort s t then Ok t else Err (wrong_type Fun.Variable 0)

-- whether two values are of one type
abbrev pub are_alike : ValueTree → ValueTree → Bool
are_alike (boolean a) t = has_sort Sort.Bool t
are_alike (number a) t = has_sort Sort.Int t
are_alike (text a) t = has_sort Sort.Text t
are_alike (list a) t = has_sort Sort.List t
are_alike (object a) t = has_sort Sort.Obj t
are_alike null t = false

abbrev pub sort_name : Sort → List ℕ
sort_name Sort.Bool = codes "boolean"
sort_name Sort.Int = codes "integer"
sort_name Sort.Text = codes "string"
sort_name Sort.List = codes "array"
sort_name Sort.Obj = codes "object"

-- the value where none is given
abbrev pub empty_of : Sort → ValueTree
empty_of Sort.Bool = boolean false
empty_of Sort.Int = number (pos 0)
empty_of Sort.Text = text []
empty_of Sort.List = list no_values
empty_of Sort.Obj = object no_members
