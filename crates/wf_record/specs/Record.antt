-- What a run leaves: its rows, its record, the value that stands for it, and its line.
use Rattle.std.specs.Prelude.{ℕ, pos, ◌-◌, ◌^◌, min, List, [], ◌∷◌, ◌++◌, Option, map, codes}
use Rattle.hex.specs.Hex.{encode_lower}
use Rattle.wf_json.specs.Json.{json}
use Rattle.wf_lists.specs.KeyOrder.{find_key}
use Rattle.wf_val.specs.Address.{address_cmp}
use Rattle.wf_val.specs.ValueTree.{ValueTree, number, text, list, object, trees, members, Member}
use Rattle.wf_val.specs.declared.address.Address.{Address}
use Rattle.wf_record.specs.declared.attempt.Try.{Try}
use Rattle.wf_record.specs.declared.status.Status.{Status}
use Rattle.wf_record.specs.declared.status.RunStatus.{RunStatus}

-- What is known of an action that has ended: its status and code, what it took in and gave out, the fault if there was
-- one, its tracked properties and what its attempts came to.
pub record Row : Type 0 where
  pub status : Status
  pub code : List ℕ
  pub inputs : ValueTree
  pub outputs : ValueTree
  pub error : ValueTree
  pub tracked : ValueTree
  pub attempts : List Try

-- A row at its address: the action's name, and one iteration number for each loop round it.
pub record RowTree : Type 0 where
  pub address : Address
  pub row : Row

-- What a run leaves: its name, its definition's digest, what it was started with, how it ended, and its rows in the
-- order of their addresses.
pub record RecordTree : Type 0 where
  pub run : List ℕ
  pub digest : List ℕ
  pub trigger : ValueTree
  pub parameters : List Member
  pub status : RunStatus
  pub error : ValueTree
  pub response : ValueTree
  pub outputs : ValueTree
  pub rows : List RowTree

abbrev pub address_of : RowTree → Address
address_of r = r.address

-- the row of an address
abbrev pub find_row : Address → List RowTree → Option RowTree
find_row = find_key address_cmp address_of

abbrev pub status_name : Status → List ℕ
status_name Status.Succeeded = codes "Succeeded"
status_name Status.Failed = codes "Failed"
status_name Status.Skipped = codes "Skipped"
status_name Status.TimedOut = codes "TimedOut"
status_name Status.Cancelled = codes "Cancelled"

abbrev pub run_status_name : RunStatus → List ℕ
run_status_name RunStatus.Succeeded = codes "Succeeded"
run_status_name RunStatus.Failed = codes "Failed"
run_status_name RunStatus.Cancelled = codes "Cancelled"

-- ---- the value

-- the number of an iteration, cut to the greatest number that a value holds
abbrev pub index_value : ℕ → ValueTree
index_value n = number (pos (min n (2 ^ 63 - 1)))

abbrev pub at_value : List ℕ → ValueTree
at_value at' = list (trees (map index_value at'))

-- what an attempt came to: a status code, or a word where there is none
abbrev pub try_value : Try → ValueTree
try_value (Try.Code n) = number (pos n)
try_value Try.NoConnection = text (codes "noConnection")
try_value Try.TimedOut = text (codes "timedOut")
try_value Try.NoAnswer = text (codes "noAnswer")
try_value Try.Unknown = text (codes "unknown")

abbrev pub attempts_value : List Try → ValueTree
attempts_value tries = list (trees (map try_value tries))

-- a row as a value, its members in byte order of their names
abbrev pub row_value : RowTree → ValueTree
row_value r = object (members (
    (codes "at", at_value r.address.at)
    ∷ (codes "attempts", attempts_value r.row.attempts)
    ∷ (codes "code", text r.row.code)
    ∷ (codes "error", r.row.error)
    ∷ (codes "inputs", r.row.inputs)
    ∷ (codes "name", text r.address.name)
    ∷ (codes "outputs", r.row.outputs)
    ∷ (codes "status", text (status_name r.row.status))
    ∷ (codes "tracked", r.row.tracked)
    ∷ []))

-- A record as a value. `form` is the number of this form of records, and the digest is in lower-case hexadecimal digits.
abbrev pub record_value : RecordTree → ValueTree
record_value r = object (members (
    (codes "definition", text (encode_lower r.digest))
    ∷ (codes "error", r.error)
    ∷ (codes "form", number (pos 2))
    ∷ (codes "outputs", r.outputs)
    ∷ (codes "parameters", object (members r.parameters))
    ∷ (codes "response", r.response)
    ∷ (codes "rows", list (trees (map row_value r.rows)))
    ∷ (codes "run", text r.run)
    ∷ (codes "status", text (run_status_name r.status))
    ∷ (codes "trigger", r.trigger)
    ∷ []))

-- ---- the line

-- the record's line
unfoldable pub record_line : RecordTree → List ℕ
record_line r = json (record_value r) ++ 10 ∷ []

-- what of it is a row's, and the list of rows
unfoldable pub row_json : RowTree → List ℕ
row_json r = json (row_value r)

unfoldable pub rows_json : List RowTree → List ℕ
rows_json rs = json (list (trees (map row_value rs)))
