-- What is asked of actions on variables (Workflow Definition Language, "Variables actions").
use Rattle.std.specs.Prelude.{ℕ, nat_le, List, [], ◌∷◌, length, Bool, false, ◌&&◌, Option, Some, is_some, codes}
use Rattle.std.specs.List.{list_all, list_any}
use Rattle.std.specs.Str.{str_eq_ignore_ascii_case}
use Rattle.wf_val.specs.ValueTree.{ValueTree, text, list, items}
use Rattle.wf_val.specs.Get.{get}
use Rattle.wf_kinds.specs.Parts.{input, is_text}

-- the types of variables; the case of ASCII letters doesn't count
abbrev pub variable_types : List (List ℕ)
variable_types = codes "boolean" ∷ codes "integer" ∷ codes "string" ∷ codes "array" ∷ codes "object" ∷ []

abbrev pub is_variable_type : Option ValueTree → Bool
is_variable_type (Some (text s)) = list_any (str_eq_ignore_ascii_case s) variable_types
is_variable_type t = false

-- a variable's name and its type; a value may stand beside them
abbrev pub is_initial : ValueTree → Bool
is_initial t = is_text (get (codes "name") t) && is_variable_type (get (codes "type") t)

-- a list of 1 to 20 variables; a name may stand twice here
abbrev pub are_initials : Option ValueTree → Bool
are_initials (Some (list ts)) = nat_le 1 (length (items ts)) && nat_le (length (items ts)) 20 && list_all is_initial (items ts)
are_initials t = false

abbrev pub initialize_has : ValueTree → Bool
initialize_has t = are_initials (input (codes "variables") t)

-- of a variable that is set, or to which something is appended
abbrev pub set_has : ValueTree → Bool
set_has t = is_text (input (codes "name") t) && is_some (input (codes "value") t)

-- of one that is counted up or down, by 1 where nothing is said
abbrev pub count_has : ValueTree → Bool
count_has t = is_text (input (codes "name") t)
