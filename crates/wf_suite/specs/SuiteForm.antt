-- The form of a file of tests as a table: what each value in it has to be.
use Rattle.std.specs.Prelude.{ℕ, List, [], ◌∷◌, ◌++◌, length, Bool, true, false, not, ◌&&◌, ◌||◌, nat_le, Option, Some, None, is_some}
use Rattle.std.specs.Prelude.{if◌then◌else◌, bytes_eq, codes}
use Rattle.wf_asked.specs.Asked.{is_index, is_list, is_name, is_text, is_within}
use Rattle.wf_json.specs.Pointer.{flagged, here}
use Rattle.wf_places.specs.Form.{Form}
use Rattle.wf_val.specs.Get.{get, is_object}
use Rattle.wf_val.specs.ValueTree.{ValueTree, list, items}
use Rattle.wf_suite.specs.declared.part.Part.{Part}

-- the inputs themselves, or the name of their file
abbrev pub is_inputs : ValueTree → Bool
is_inputs t = is_object t || is_name 1024 t

-- a list of 1 to 500
abbrev pub are_actions : ValueTree → Bool
are_actions (list ts) = nat_le 1 (length (items ts)) && nat_le (length (items ts)) 500
are_actions t = false

abbrev pub is_right : Part → ValueTree → Bool
is_right Part.Suite = is_object
is_right Part.FileName = is_name 1024
is_right Part.Tests = is_list
is_right Part.Test = is_object
is_right Part.Name = is_name 200
is_right Part.Inputs = is_inputs
is_right Part.Further = is_within 1 100
is_right Part.Number = is_index
is_right Part.Again = is_object
is_right Part.Actions = are_actions
is_right Part.Text = is_text
is_right Part.Wanted = λ t. is_object t || is_list t
is_right Part.Record = is_object
is_right Part.Rows = is_object
is_right Part.Row = is_object
is_right Part.Peak = is_object
is_right Part.Any = λ t. true

abbrev pub needed : Part → List (List ℕ)
needed Part.Suite = codes "definition" ∷ codes "tests" ∷ []
needed Part.Test = codes "name" ∷ []
needed Part.Again = codes "from" ∷ codes "inputs" ∷ codes "of" ∷ []
needed Part.Peak = codes "most" ∷ []
needed part = []

abbrev pub is_closed : Part → Bool
is_closed Part.Suite = true
is_closed Part.Test = true
is_closed Part.Again = true
is_closed Part.Peak = true
is_closed Part.Wanted = true
is_closed Part.Record = true
is_closed Part.Row = true
is_closed part = false

abbrev pub suite_member : List ℕ → Option Part
suite_member name =
    if bytes_eq name (codes "definition") then Some Part.FileName else
    (if bytes_eq name (codes "tests") then Some Part.Tests else None)

abbrev pub test_member : List ℕ → Option Part
test_member name =
    if bytes_eq name (codes "accepts") then Some Part.Number else
    (if bytes_eq name (codes "expect") then Some Part.Wanted else
    (if bytes_eq name (codes "inputs") then Some Part.Inputs else
    (if bytes_eq name (codes "name") then Some Part.Name else
    (if bytes_eq name (codes "peak") then Some Part.Peak else
    (if bytes_eq name (codes "refused") then Some Part.Text else
    (if bytes_eq name (codes "resubmit") then Some Part.Again else
    (if bytes_eq name (codes "schedule") then Some Part.FileName else
    (if bytes_eq name (codes "schedules") then Some Part.Further else
    (if bytes_eq name (codes "seed") then Some Part.Number else None)))))))))

abbrev pub again_member : List ℕ → Option Part
again_member name =
    if bytes_eq name (codes "from") then Some Part.Actions else
    (if bytes_eq name (codes "inputs") then Some Part.Inputs else
    (if bytes_eq name (codes "of") then Some Part.Text else
    (if bytes_eq name (codes "schedule") then Some Part.FileName else None)))

-- what may be expected of a record, and of a row: anything, but that rows are named by their addresses
abbrev pub record_member : List ℕ → Option Part
record_member name =
    if bytes_eq name (codes "actions") then Some Part.Rows else
    (if bytes_eq name (codes "error") then Some Part.Any else
    (if bytes_eq name (codes "outputs") then Some Part.Any else
    (if bytes_eq name (codes "parameters") then Some Part.Any else
    (if bytes_eq name (codes "response") then Some Part.Any else
    (if bytes_eq name (codes "run") then Some Part.Any else
    (if bytes_eq name (codes "status") then Some Part.Any else
    (if bytes_eq name (codes "trigger") then Some Part.Any else None)))))))

abbrev pub row_member : List ℕ → Option Part
row_member name =
    if bytes_eq name (codes "at") then Some Part.Any else
    (if bytes_eq name (codes "attempts") then Some Part.Any else
    (if bytes_eq name (codes "code") then Some Part.Any else
    (if bytes_eq name (codes "error") then Some Part.Any else
    (if bytes_eq name (codes "inputs") then Some Part.Any else
    (if bytes_eq name (codes "name") then Some Part.Any else
    (if bytes_eq name (codes "outputs") then Some Part.Any else
    (if bytes_eq name (codes "status") then Some Part.Any else
    (if bytes_eq name (codes "tracked") then Some Part.Any else None))))))))

abbrev pub peak_member : List ℕ → Option Part
peak_member name = if bytes_eq name (codes "most") then Some Part.Number else None

abbrev pub part_member : Part → List ℕ → Option Part
part_member Part.Suite name = suite_member name
part_member Part.Test name = test_member name
part_member Part.Again name = again_member name
part_member Part.Peak name = peak_member name
part_member Part.Wanted name = record_member name
part_member Part.Record name = record_member name
part_member Part.Rows name = Some Part.Row
part_member Part.Row name = row_member name
part_member part name = None

abbrev pub part_item : Part → Option Part
part_item Part.Tests = Some Part.Test
part_item Part.Actions = Some Part.Text
part_item Part.Wanted = Some Part.Record
part_item part = None

-- ---- which members of a test stand together

abbrev pub has : List ℕ → ValueTree → Bool
has name t = is_some (get name t)

-- a test with `inputs` runs, one with `resubmit` resubmits, any other checks
abbrev pub runs : ValueTree → Bool
runs t = has (codes "inputs") t || has (codes "resubmit") t

-- something is expected; and a test doesn't both run and resubmit
abbrev pub lone : ValueTree → List (List ℕ)
lone t =
    here (not (has (codes "accepts") t || (has (codes "expect") t || has (codes "refused") t)))
    ++ flagged (has (codes "inputs") t && has (codes "resubmit") t) (codes "inputs")

-- a number of actions is expected of a check alone, records of all others alone, and a refusal beside neither
abbrev pub wanted_twice : ValueTree → List (List ℕ)
wanted_twice t =
    flagged (runs t && has (codes "accepts") t) (codes "accepts")
    ++ (flagged (not (runs t) && has (codes "expect") t) (codes "expect")
    ++ flagged ((has (codes "accepts") t || has (codes "expect") t) && has (codes "refused") t) (codes "refused"))

-- a peak is bounded where records are expected, further schedules are those of a run whose records are, and a seed is theirs
abbrev pub of_runs : ValueTree → List (List ℕ)
of_runs t =
    (flagged (not (has (codes "expect") t) && has (codes "peak") t) (codes "peak")
    ++ flagged (not (has (codes "inputs") t) && has (codes "schedule") t) (codes "schedule"))
    ++ (flagged (not (has (codes "inputs") t && has (codes "expect") t) && has (codes "schedules") t) (codes "schedules")
    ++ flagged (not (has (codes "schedules") t) && has (codes "seed") t) (codes "seed"))

abbrev pub misplaced : ValueTree → List (List ℕ)
misplaced t = lone t ++ (wanted_twice t ++ of_runs t)

abbrev pub beside : Part → ValueTree → List (List ℕ)
beside Part.Test t = misplaced t
beside part t = []

abbrev pub suite_form : Form Part
suite_form = record {
  is_right = is_right;
  needed = needed;
  is_closed = is_closed;
  member = part_member;
  item = part_item;
  beside = beside;
}
