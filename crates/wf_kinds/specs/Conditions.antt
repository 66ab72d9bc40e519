-- The form of a condition (Workflow Definition Language, "Conditions"); what its texts spell isn't asked.
use Rattle.std.specs.Prelude.{ℕ, List, [], ◌∷◌, Bool, true, false, ◌&&◌, ◌||◌, Option, Some, None, is_some, find, bytes_eq, length, ◌==◌, if◌then◌else◌, codes}
use Rattle.wf_val.specs.Function.{function_name}
use Rattle.wf_val.specs.ValueTree.{ValueTree, text, list, object, items, ValueTrees, no_values, value_then, MemberTrees, no_members, member_then}
use Rattle.wf_val.specs.declared.function.Fun.{Fun}

-- the comparisons of two values
abbrev pub comparisons : List Fun
comparisons =
    Fun.Equals ∷ Fun.Greater ∷ Fun.GreaterOrEquals ∷ Fun.Less ∷ Fun.LessOrEquals ∷ Fun.Contains ∷ Fun.StartsWith ∷ Fun.EndsWith ∷ []

-- the comparison of a name, which compares exactly
abbrev pub comparison_named : List ℕ → Option Fun
comparison_named name = find (λ f. bytes_eq name (function_name f)) comparisons

-- two values of any form
abbrev pub is_pair : ValueTree → Bool
is_pair (list ts) = length (items ts) == 2
is_pair t = false

-- What an operation of this name asks of what it is applied to: a list of conditions, a condition, or two values.
abbrev pub is_operation : List ℕ → Bool → Bool → Bool → Bool
is_operation name of_conditions of_one of_two =
    if bytes_eq name (codes "and") || bytes_eq name (codes "or") then of_conditions
    else if bytes_eq name (codes "not") then of_one
    else is_some (comparison_named name) && of_two

-- a text, or an object with one member, which names the operation
abbrev mutual
  pub is_condition : ValueTree → Bool
  is_condition (text s) = true
  is_condition (object ms) = is_one_operation ms
  is_condition t = false

  pub is_one_operation : MemberTrees → Bool
  is_one_operation (member_then name t no_members) = is_operation name (is_list_of_conditions t) (is_condition t) (is_pair t)
  is_one_operation ms = false

  pub is_list_of_conditions : ValueTree → Bool
  is_list_of_conditions (list ts) = are_conditions ts
  is_list_of_conditions t = false

  pub are_conditions : ValueTrees → Bool
  are_conditions no_values = true
  are_conditions (value_then t ts) = is_condition t && are_conditions ts

-- a member that holds one
abbrev pub is_a_condition : Option ValueTree → Bool
is_a_condition None = false
is_a_condition (Some t) = is_condition t
