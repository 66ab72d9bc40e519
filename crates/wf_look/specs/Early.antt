-- WHERE A FUNCTION STOPS that goes no further than the first argument that decides: `and`, `or` and `coalesce`.
use Rattle.std.specs.Prelude.{ℕ, true, false, Option, Some, None, Ok, Err}
use Rattle.wf_val.specs.Arguments.{Answer, wrong_type}
use Rattle.wf_val.specs.ValueTree.{ValueTree, null, boolean}
use Rattle.wf_val.specs.declared.function.Fun.{Fun}

-- the answer at which a function that stops early stops, at its argument of that place
abbrev pub stop : Fun → ℕ → ValueTree → Option Answer
stop Fun.And i (boolean true) = None
stop Fun.And i (boolean false) = Some (Ok (boolean false))
stop Fun.Or i (boolean true) = Some (Ok (boolean true))
stop Fun.Or i (boolean false) = None
stop Fun.Coalesce i null = None
stop Fun.Coalesce i t = Some (Ok t)
stop f i t = Some (Err (wrong_type f i))

-- its value where no argument stops it
abbrev pub at_end : Fun → ValueTree
at_end Fun.And = boolean true
at_end Fun.Or = boolean false
at_end f = null

-- the answer at which a function that stops early stops, where its argument of that place has this one; a fault stops it
abbrev pub stop_at : Fun → ℕ → Answer → Option Answer
stop_at f i (Ok t) = stop f i t
stop_at f i (Err e) = Some (Err e)
