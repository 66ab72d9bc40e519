-- Which schema a value is, or where it is none.
use Rattle.std.specs.Prelude.{ℕ, List, Option, Some, None, Result, Ok, Err}
use Rattle.wf_places.specs.Pointer.{least}
use Rattle.wf_places.specs.Form.{places}
use Rattle.wf_val.specs.Seen.{tree}
use Rattle.wf_val.specs.ValueTree.{ValueTree}
use Rattle.wf_schema.specs.SchemaForm.{schema_form}
use Rattle.wf_schema.specs.declared.fault.SchemaFault.{SchemaFault}
use Rattle.wf_schema.specs.declared.part.Part.{Part}
use Rattle.wf_schema.specs.declared.schema.Schema.{Schema}

-- a schema as contracts see it: the value that it is
abbrev pub SchemaTree : Type 0
SchemaTree = ValueTree

abbrev pub schema_tree : Schema → SchemaTree
schema_tree s = tree s.value

-- the pointers of all places at which a value isn't as a schema has to be
abbrev pub flaws : ValueTree → List (List ℕ)
flaws t = places schema_form Part.Schema t

abbrev pub unless_at : ValueTree → Option (List ℕ) → Result SchemaTree SchemaFault
unless_at t (Some pointer) = Err (SchemaFault.Form pointer)
unless_at t None = Ok t

abbrev pub schema_of : ValueTree → Result SchemaTree SchemaFault
schema_of t = unless_at t (least (flaws t))
