-- A record is read back from its value.
use Rattle.std.specs.Prelude.{◌≡◌, pos, ◌<◌, ◌^◌, [], ◌∷◌, length, map, replicate, None, Ok, ⊤, codes}
use Rattle.std.specs.List.{AllByRecursion}
use Rattle.hex.specs.Hex.{IsBytes, encode_lower}
use Rattle.wf_json.specs.Pointer.{least}
use Rattle.wf_record_form.specs.OfVal.{of_val, record_places}
use Rattle.wf_val.specs.ValueTree.{ValueTree, number, text, list, object, trees, members}
use Rattle.wf_record.specs.Record.{RowTree, RecordTree, at_value, record_value, run_status_name, status_name}
use Rattle.wf_record.specs.declared.attempt.Try.{Try}

abbrev pub IsTryInRange : Try → Type 0
IsTryInRange (Try.Code n) = n < 2 ^ 32
IsTryInRange Try.NoConnection = ⊤
IsTryInRange Try.TimedOut = ⊤
IsTryInRange Try.NoAnswer = ⊤
IsTryInRange Try.Unknown = ⊤

pub record IsRowInRange (r : RowTree) : Type 0 where
  pub at_in_range : AllByRecursion (λ n. n < 2 ^ 63) r.address.at
  pub attempts : AllByRecursion IsTryInRange r.row.attempts

-- what the types of a record keep, and that no iteration's number is cut in a value
pub record IsInRange (r : RecordTree) : Type 0 where
  pub digest_length : length r.digest ≡ 32
  pub digest_bytes : IsBytes r.digest
  pub rows_in_range : AllByRecursion IsRowInRange r.rows

-- the value of a record is of the form
abbrev pub IsOfForm : RecordTree → Type 0
IsOfForm r = least (record_places (record_value r)) ≡ None

abbrev pub IsReadBack : RecordTree → Type 0
IsReadBack r = of_val (record_value r) ≡ Ok r

-- ---- form 1

-- a row and a record as values of form 1, which had the number of attempts in place of their list
abbrev pub first_row_value : RowTree → ValueTree
first_row_value r = object (members (
    (codes "at", at_value r.address.at)
    ∷ (codes "attempts", number (pos (length r.row.attempts)))
    ∷ (codes "code", text r.row.code)
    ∷ (codes "error", r.row.error)
    ∷ (codes "inputs", r.row.inputs)
    ∷ (codes "name", text r.address.name)
    ∷ (codes "outputs", r.row.outputs)
    ∷ (codes "status", text (status_name r.row.status))
    ∷ (codes "tracked", r.row.tracked)
    ∷ []))

abbrev pub first_record_value : RecordTree → ValueTree
first_record_value r = object (members (
    (codes "definition", text (encode_lower r.digest))
    ∷ (codes "error", r.error)
    ∷ (codes "form", number (pos 1))
    ∷ (codes "outputs", r.outputs)
    ∷ (codes "parameters", object (members r.parameters))
    ∷ (codes "response", r.response)
    ∷ (codes "rows", list (trees (map first_row_value r.rows)))
    ∷ (codes "run", text r.run)
    ∷ (codes "status", text (run_status_name r.status))
    ∷ (codes "trigger", r.trigger)
    ∷ []))

-- of whose attempts nothing is known but their number
abbrev pub untold_row : RowTree → RowTree
untold_row r = record {
  address = r.address;
  row = record {
    status = r.row.status;
    code = r.row.code;
    inputs = r.row.inputs;
    outputs = r.row.outputs;
    error = r.row.error;
    tracked = r.row.tracked;
    attempts = replicate (length r.row.attempts) Try.Unknown;
  };
}

abbrev pub untold : RecordTree → RecordTree
untold r = record {
  run = r.run;
  digest = r.digest;
  trigger = r.trigger;
  parameters = r.parameters;
  status = r.status;
  error = r.error;
  response = r.response;
  outputs = r.outputs;
  rows = map untold_row r.rows;
}

-- so few attempts that their number isn't cut
abbrev pub HasFewAttempts : RecordTree → Type 0
HasFewAttempts r = AllByRecursion (λ row. length row.row.attempts < 2 ^ 32) r.rows

abbrev pub IsReadAsUntold : RecordTree → Type 0
IsReadAsUntold r = least (record_places (first_record_value r)) ≡ None → of_val (first_record_value r) ≡ Ok (untold r)
