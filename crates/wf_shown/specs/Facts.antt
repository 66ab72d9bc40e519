-- Members with their values.
use Rattle.std.specs.Prelude.{ℕ, Bool, true, false, List, [], ◌∷◌, if◌then◌else◌}
use Rattle.wf_html.specs.Html.{Piece, opened, closed, said}
use Rattle.wf_html.specs.declared.tag.Tag.{Tag}
use Rattle.wf_json.specs.Json.{json}
use Rattle.wf_val.specs.ValueTree.{ValueTree, null, object, no_members}

-- a name, and a text that stands for the value
abbrev pub fact_text : List ℕ → List ℕ → List Piece
fact_text name text =
    opened Tag.Term ∷ said name ∷ closed Tag.Term
    ∷ opened Tag.Value ∷ opened Tag.Data ∷ said text ∷ closed Tag.Data ∷ closed Tag.Value ∷ []

-- a name and a value in JSON; nothing where the value is null
abbrev pub fact : List ℕ → ValueTree → List Piece
fact name null = []
fact name v = fact_text name (json v)

-- an object has no member
abbrev pub is_bare : ValueTree → Bool
is_bare (object no_members) = true
is_bare v = false

-- the same of an object of values by their names; nothing where it has no member
abbrev pub fact_of_members : List ℕ → ValueTree → List Piece
fact_of_members name v = if is_bare v then [] else fact name v
