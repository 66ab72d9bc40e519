-- THE KINDS THAT WRITE A VARIABLE which has a value: SetVariable, IncrementVariable, DecrementVariable, AppendToArrayVariable and
-- AppendToStringVariable. The value is evaluated first, then the variable is looked up, then their types are judged.
use Rattle.std.specs.Prelude.{ℕ, ℤ, pos, ◌+ℤ◌, ◌-ℤ◌, List, [], ◌∷◌, ◌++◌, Option, Some, None, Result, Ok, Err, codes, if◌then◌else◌}
use Rattle.wf_val.specs.Arguments.{fits_i64, given, wrong_type}
use Rattle.wf_val.specs.ValueTree.{ValueTree, number, text, list, trees, items}
use Rattle.wf_val.specs.declared.fault.EvalFault.{EvalFault}
use Rattle.wf_val.specs.declared.function.Fun.{Fun}
use Rattle.wf_data.specs.Json as json_text
use Rattle.wf_template.specs.DataTree.{DataTree}
use Rattle.wf_data.specs.Looked.{or_no_value}
use Rattle.wf_data.specs.Outcomes.{Outcome}
use Rattle.wf_data.specs.Told.{Told}
use Rattle.wf_data.specs.TreeValue.{tree_value}
use Rattle.wf_data.specs.Made.{MadeTree, Making, fitting, followed, one_member}
use Rattle.wf_variables.specs.Initials.{given_item}
use Rattle.wf_variables.specs.Sorts.{are_alike}

-- the value that was given is kept, and the new one is given out
abbrev pub written : List ℕ → ValueTree → ValueTree → Result MadeTree EvalFault
written k v new = fitting (given_item k v) (one_member (codes "body") (given_item k new))

-- what a kind makes of the value that the variable has and the one that is given
abbrev pub Change : Type 0
Change = List ℕ → ValueTree → ValueTree → Result MadeTree EvalFault

-- another value of the same type
abbrev pub set_to : Change
set_to k u v = if are_alike u v then written k v v else Err (wrong_type Fun.Variable 0)

-- the new number has to have 64 bits
abbrev pub moved : List ℕ → ℤ → ℤ → Result MadeTree EvalFault
moved k by new = if fits_i64 new then written k (number by) (number new) else Err (EvalFault.Range Fun.Variable)

-- numbers alone are added and taken away
abbrev pub incremented : Change
incremented k (number a) (number b) = moved k b (a +ℤ b)
incremented k u v = Err (wrong_type Fun.Variable 0)

abbrev pub decremented : Change
decremented k (number a) (number b) = moved k b (a -ℤ b)
decremented k u v = Err (wrong_type Fun.Variable 0)

-- a value of any type is an item more
abbrev pub with_item : Change
with_item k (list ts) v = written k v (list (trees (items ts ++ v ∷ [])))
with_item k u v = Err (wrong_type Fun.Variable 0)

-- a value of any type is joined as the text that JSON makes of it
abbrev pub with_text : Change
with_text k (text s) v = written k v (text (s ++ json_text.text v))
with_text k u v = Err (wrong_type Fun.Variable 0)

-- the value that is given comes first, then the one that the variable has, then the change
abbrev pub changed : Told → Change → List ℕ → Outcome → Result MadeTree EvalFault × ℕ
changed l change k o = followed o (λ v. given (or_no_value k (l.variable k)) (λ u. change k u v))

-- the amount is 1 where none is given
abbrev pub amount : Told → Option DataTree → ℕ → Outcome
amount l None n = (Ok (number (pos 1)), n)
amount l (Some t) n = tree_value l t n

abbrev pub made_set : Told → List ℕ → DataTree → Making
made_set l k t n = changed l set_to k (tree_value l t n)

abbrev pub made_increment : Told → List ℕ → Option DataTree → Making
made_increment l k t n = changed l incremented k (amount l t n)

abbrev pub made_decrement : Told → List ℕ → Option DataTree → Making
made_decrement l k t n = changed l decremented k (amount l t n)

abbrev pub made_append_array : Told → List ℕ → DataTree → Making
made_append_array l k t n = changed l with_item k (tree_value l t n)

abbrev pub made_append_string : Told → List ℕ → DataTree → Making
made_append_string l k t n = changed l with_text k (tree_value l t n)
