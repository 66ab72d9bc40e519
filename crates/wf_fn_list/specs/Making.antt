-- Lists of arguments (Workflow Definition Language, collection functions createArray and array).
use Rattle.std.specs.Prelude.{List, [], ◌∷◌, Option, Some, None, Err, slice_get}
use Rattle.wf_val.specs.Arguments.{Answer, wrong_type, bounded}
use Rattle.wf_val.specs.ValueTree.{ValueTree, list}
use Rattle.wf_val.specs.declared.function.Fun.{Fun}
use Rattle.wf_fn_list.specs.Parts.{listed}

-- the arguments as a list
abbrev pub create_array_row : List ValueTree → Answer
create_array_row ts = bounded (listed ts)

-- a list is itself, and any other value a list of one
abbrev pub array_of : Option ValueTree → Answer
array_of (Some (list xs)) = bounded (list xs)
array_of (Some t) = bounded (listed (t ∷ []))
array_of None = Err (wrong_type Fun.Array 0)

abbrev pub array_row : List ValueTree → Answer
array_row ts = array_of (slice_get ts 0)
