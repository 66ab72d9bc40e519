-- What a use names, and what else it asks for (Workflow Definition Language, reference of the functions in expressions).
use Rattle.std.specs.Prelude.{ℕ, Bool, true, false, cond, List, [], ◌∷◌, ◌++◌}
use Rattle.wf_val.specs.declared.function.Fun.{Fun}
use Rattle.wf_eval_expr.specs.Uses.{Use, names, asks, asks_moment, asks_words}
use Rattle.wf_uses.specs.declared.named.Named.{Named}
use Rattle.wf_uses.specs.declared.named.Asked.{Asked}

-- what the name of a naming function is a name of; a row is asked for by `actions`, `outputs` and `body`
abbrev pub is_named_by : Named → Fun → Bool
is_named_by Named.Row Fun.Actions = true
is_named_by Named.Row Fun.Outputs = true
is_named_by Named.Row Fun.Body = true
is_named_by Named.Result Fun.Result = true
is_named_by Named.Variable Fun.Variables = true
is_named_by Named.Parameter Fun.Parameters = true
is_named_by Named.Item Fun.Items = true
is_named_by Named.Index Fun.IterationIndexes = true
is_named_by n f = false

-- the name of a use, where it is of that kind
abbrev pub name_by : Named → Use → List (List ℕ)
name_by n (names f k) = cond (is_named_by n f) (k ∷ []) []
name_by n (asks f) = []
name_by n asks_moment = []
name_by n asks_words = []

-- the names of that kind, in the order of the uses, as often as they stand
abbrev pub names_by : Named → List Use → List (List ℕ)
names_by n [] = []
names_by n (u ∷ us) = name_by n u ++ names_by n us

-- whether a use asks for this: `item()`, `action()` (the row of its own), a word of `guid` or `rand`, the moment, the run
abbrev pub asks_for : Asked → Use → Bool
asks_for Asked.Item (asks Fun.Item) = true
asks_for Asked.Own (asks Fun.Action) = true
asks_for Asked.Run (asks Fun.Workflow) = true
asks_for Asked.Words asks_words = true
asks_for Asked.Moment asks_moment = true
asks_for a u = false
