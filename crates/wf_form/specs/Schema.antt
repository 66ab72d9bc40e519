-- V2: the schema is that of 2016-06-01 (Workflow Definition Language, "Workflow definition structure").
use Rattle.std.specs.Prelude.{ℕ, List, [], Bool, false, not, ◌||◌, Option, bytes_eq, codes}
use Rattle.std.specs.Option.{option_map_or}
use Rattle.wf_after.specs.Pointer.{flagged}
use Rattle.wf_val.specs.ValueTree.{ValueTree, text}
use Rattle.wf_val.specs.Get.{get}
use Rattle.wf_form.specs.declared.role.Role.{Role}

-- its text, with or without the last `#`
abbrev pub is_schema : ValueTree → Bool
is_schema (text s) =
    bytes_eq s (codes "https://schema.management.azure.com/providers/Microsoft.Logic/schemas/2016-06-01/workflowdefinition.json#")
    || bytes_eq s (codes "https://schema.management.azure.com/providers/Microsoft.Logic/schemas/2016-06-01/workflowdefinition.json")
is_schema t = false

-- there is one, and it is another
abbrev pub is_other_schema : Option ValueTree → Bool
is_other_schema value = option_map_or (λ v. not (is_schema v)) value false

abbrev pub schema_at : Role → ValueTree → List (List ℕ)
schema_at Role.Definition t = flagged (is_other_schema (get (codes "$schema") t)) (codes "$schema")
schema_at role t = []

unfoldable pub schema : Role → ValueTree → List (List ℕ)
schema role t = schema_at role t
