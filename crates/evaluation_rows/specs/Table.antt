-- What a look made from data tells.
use Rattle.std.specs.Prelude.{ℕ, pos, Option, Some, None}
use Rattle.wf_val.specs.ValueTree.{ValueTree, number}

-- an index is a number from 0
abbrev pub as_index : Option ValueTree → Option ℕ
as_index (Some (number (pos n))) = Some n
as_index o = None
