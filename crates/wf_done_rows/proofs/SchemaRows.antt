-- Where a value is no schema: of several places the least by its bytes, which isn't the first by names.
use Rattle.std.proofs.Common.{◌≡◌, refl, [], ◌∷◌, Err}
use Rattle.std.specs.Prelude.{codes}
use Rattle.wf_data.proofs.RowParts.{plus, fields}
use Rattle.wf_schema.specs.Reading.{schema_of}
use Rattle.wf_schema.specs.declared.fault.SchemaFault.{SchemaFault}

read-least :
    schema_of (fields ((codes "properties", fields ((codes "a/", plus 5) ∷ (codes "a0", plus 5) ∷ [])) ∷ []))
    ≡ Err (SchemaFault.Form (codes "/properties/a0"))
read-least = refl

read-outermost :
    schema_of (fields ((codes "properties", plus 5) ∷ (codes "type", fields ((codes "type", plus 5) ∷ [])) ∷ []))
    ≡ Err (SchemaFault.Form (codes "/properties"))
read-outermost = refl
