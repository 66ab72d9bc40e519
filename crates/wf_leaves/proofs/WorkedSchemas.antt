-- What the schema of a ParseJson is read as.
use Prim.Native.String.{String}
use Rattle.std.proofs.Common.{◌≡◌, List, [], ◌∷◌, Some, None, refl}
use Rattle.std.specs.Prelude.{codes, pos}
use Rattle.wf_val.specs.ValueTree.{ValueTree, Member, null, number, text, list, trees, object, members}
use Rattle.wf_template.specs.DataTree as datum
use Rattle.wf_kinds.specs.declared.action_type.ActionType.{ActionType}
use Rattle.wf_def.specs.ActionTree.{KindTree, parse_json}
use Rattle.wf_leaves.specs.Leaves.{leaf_of}
use Rattle.wf_leaves.specs.Texts.{template_of}

abbrev word : String → ValueTree
word s = text (codes s)

abbrev fields : List Member → ValueTree
fields ms = object (members ms)

abbrev list_of : List ValueTree → ValueTree
list_of ts = list (trees ts)

abbrev datum_of : String → datum.DataTree
datum_of s = datum.text (template_of (codes s))

abbrev parsing : List Member → KindTree
parsing inputs = leaf_of ActionType.ParseJson (fields ((codes "inputs", fields inputs) ∷ []))

-- the schema is the value, with all that it has; its texts are no templates
abbrev some_schema : ValueTree
some_schema = fields (
    (codes "description", word "@bad(") ∷
    (codes "enum", list_of (number (pos 1) ∷ null ∷ [])) ∷
    (codes "properties", fields ((codes "a", fields ((codes "type", word "string") ∷ [])) ∷ [])) ∷
    (codes "required", list_of (word "@a" ∷ [])) ∷
    (codes "type", list_of (word "object" ∷ word "null" ∷ [])) ∷ [])

with_schema : parsing ((codes "content", word "c") ∷ (codes "schema", some_schema) ∷ []) ≡ parse_json (datum_of "c") (Some some_schema)
with_schema = refl

with_empty_schema : parsing ((codes "content", word "c") ∷ (codes "schema", fields []) ∷ []) ≡ parse_json (datum_of "c") (Some (fields []))
with_empty_schema = refl

without_schema : parsing ((codes "content", word "c") ∷ []) ≡ parse_json (datum_of "c") None
without_schema = refl

-- a value that is none is read as none; V6 refuses it before
with_no_schema : parsing ((codes "content", word "c") ∷ (codes "schema", fields ((codes "items", number (pos 5)) ∷ [])) ∷ [])
    ≡ parse_json (datum_of "c") None
with_no_schema = refl
