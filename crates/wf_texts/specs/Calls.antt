-- Which calls an expression may have (Workflow Definition Language, reference of the functions in expressions).
use Rattle.std.specs.Prelude.{ℕ, ◌+◌, List, Bool, true, false, not, ◌&&◌, ◌||◌, Option, Some, None}
use Rattle.wf_val.specs.Arity.{takes}
use Rattle.wf_val.specs.Function.{function_of}
use Rattle.wf_val.specs.ValueTree.{text}
use Rattle.wf_val.specs.declared.function.Fun.{Fun}
use Rattle.wf_template.specs.ExprTree.{ExprTree, ExprTrees, literal, no_exprs, expr_then}

-- the functions that are told a name of an action, a loop, a parameter or a variable
abbrev pub is_naming : Fun → Bool
is_naming Fun.Actions = true
is_naming Fun.Outputs = true
is_naming Fun.Body = true
is_naming Fun.Result = true
is_naming Fun.Items = true
is_naming Fun.IterationIndexes = true
is_naming Fun.Parameters = true
is_naming Fun.Variables = true
is_naming f = false

abbrev pub is_text : ExprTree → Bool
is_text (literal (text s)) = true
is_text e = false

-- one text, which stands for itself
abbrev pub is_name : ExprTrees → Bool
is_name (expr_then e no_exprs) = is_text e
is_name es = false

abbrev pub arg_count : ExprTrees → ℕ
arg_count no_exprs = 0
arg_count (expr_then e es) = 1 + arg_count es

-- it takes so many arguments
abbrev pub has_count : Fun → ExprTrees → Bool
has_count f es = takes f (arg_count es)

-- one that is told a name is told it as it stands
abbrev pub has_name : Fun → ExprTrees → Bool
has_name f es = not (is_naming f) || is_name es

-- of a function that there is
abbrev pub is_sound_call_of : ExprTrees → Option Fun → Bool
is_sound_call_of es None = false
is_sound_call_of es (Some f) = has_count f es && has_name f es

-- a call, by the name as it is written and its arguments
abbrev pub is_sound_call : List ℕ → ExprTrees → Bool
is_sound_call name es = is_sound_call_of es (function_of name)
