-- V5: types are known (Workflow Definition Language, "Parameters", "Triggers and actions").
use Rattle.std.specs.Prelude.{ℕ, List, [], ◌∷◌, Bool, false, not, Option, Some, is_none, codes}
use Rattle.std.specs.List.{list_any}
use Rattle.std.specs.Str.{str_eq_ignore_ascii_case}
use Rattle.wf_after.specs.Pointer.{here}
use Rattle.wf_texts.specs.ActionType.{type_of}
use Rattle.wf_val.specs.ValueTree.{ValueTree, text}
use Rattle.wf_val.specs.Get.{get}
use Rattle.wf_form.specs.declared.role.Role.{Role}

-- a text other than Batch; the case of ASCII letters doesn't count, here and below
abbrev pub is_trigger_type : Option ValueTree → Bool
is_trigger_type (Some (text s)) = not (str_eq_ignore_ascii_case s (codes "Batch"))
is_trigger_type t = false

abbrev pub parameter_types : List (List ℕ)
parameter_types =
    codes "int" ∷ codes "string" ∷ codes "bool" ∷ codes "array" ∷ codes "object" ∷ codes "securestring" ∷ codes "secureobject" ∷ []

abbrev pub is_parameter_type : Option ValueTree → Bool
is_parameter_type (Some (text s)) = list_any (str_eq_ignore_ascii_case s) parameter_types
is_parameter_type t = false

abbrev pub is_bad_type : Role → ValueTree → Bool
is_bad_type (Role.Action level) t = is_none (type_of t)
is_bad_type Role.Trigger t = not (is_trigger_type (get (codes "type") t))
is_bad_type Role.Parameter t = not (is_parameter_type (get (codes "type") t))
is_bad_type role t = false

unfoldable pub types : Role → ValueTree → List (List ℕ)
types role t = here (is_bad_type role t)
