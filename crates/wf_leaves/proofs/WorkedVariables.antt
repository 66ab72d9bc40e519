-- What the variables that one action makes are read as, in the order of the list.
use Prim.Native.String.{String}
use Rattle.std.proofs.Common.{◌≡◌, List, [], ◌∷◌, Some, None, refl}
use Rattle.std.specs.Prelude.{codes}
use Rattle.wf_val.specs.ValueTree.{ValueTree, Member, null, text, list, trees, object, members}
use Rattle.wf_template.specs.DataTree as datum
use Rattle.wf_kinds.specs.declared.action_type.ActionType.{ActionType}
use Rattle.wf_def.specs.ActionTree.{KindTree, initialize}
use Rattle.wf_def.specs.declared.sort.Sort.{Sort}
use Rattle.wf_leaves.specs.Leaves.{leaf_of}
use Rattle.wf_leaves.specs.Texts.{template_of}

abbrev word : String → ValueTree
word s = text (codes s)

abbrev fields : List Member → ValueTree
fields ms = object (members ms)

abbrev list_of : List ValueTree → ValueTree
list_of ts = list (trees ts)

abbrev datum_of : String → datum.DataTree
datum_of s = datum.text (template_of (codes s))

abbrev variable : String → String → ValueTree
variable name sort = fields ((codes "name", word name) ∷ (codes "type", word sort) ∷ [])

abbrev making : List ValueTree → KindTree
making ts = leaf_of ActionType.InitializeVariable (fields ((codes "inputs", fields ((codes "variables", list_of ts) ∷ [])) ∷ []))

several : making (
    variable "b" "string" ∷
    fields ((codes "name", word "@a") ∷ (codes "type", word "ARRAY") ∷ (codes "value", null) ∷ []) ∷
    fields ((codes "name", word "c") ∷ (codes "type", word "integer") ∷ (codes "value", word "x") ∷ []) ∷ [])
    ≡ initialize (
    record { name = codes "b"; sort = Sort.Text; value = None } ∷
    record { name = codes "@a"; sort = Sort.List; value = Some datum.null } ∷
    record { name = codes "c"; sort = Sort.Int; value = Some (datum_of "x") } ∷ [])
several = refl

-- a name that stands twice is kept twice
twice : making (variable "v" "boolean" ∷ variable "v" "object" ∷ [])
    ≡ initialize (
    record { name = codes "v"; sort = Sort.Bool; value = None } ∷
    record { name = codes "v"; sort = Sort.Obj; value = None } ∷ [])
twice = refl
