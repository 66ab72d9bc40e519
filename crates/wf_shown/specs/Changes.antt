-- What became of a row of an earlier record.
use Rattle.std.specs.Prelude.{ℕ, Bool, List, [], ◌∷◌, ◌++◌, ◌&&◌, Option, None, Some, if◌then◌else◌, bytes_eq, codes, decimal, flat_map}
use Rattle.std.specs.Ordering.{is_eq}
use Rattle.wf_html.specs.Html.{Piece, said, with_text}
use Rattle.wf_html.specs.declared.tag.Tag.{Tag}
use Rattle.wf_record.specs.Record.{RowTree, find_row, status_name}
use Rattle.wf_record.specs.declared.attempt.Try.{Try}
use Rattle.wf_record.specs.declared.status.Status.{Status}
use Rattle.wf_val.specs.ValueOrder.{order}
use Rattle.wf_val.specs.ValueTree.{ValueTree}
use Rattle.wf_shown.specs.declared.change.Change.{Change}

-- what an attempt came to
abbrev pub attempt_text : Try → List ℕ
attempt_text (Try.Code n) = decimal n
attempt_text Try.NoConnection = codes "no connection"
attempt_text Try.TimedOut = codes "timed out"
attempt_text Try.NoAnswer = codes "no answer"
attempt_text Try.Unknown = codes "unknown"

-- a line for each attempt
abbrev pub attempt_line : Try → List ℕ
attempt_line t = attempt_text t ++ 10 ∷ []

abbrev pub attempts_text : List Try → List ℕ
attempts_text ts = flat_map attempt_line ts

abbrev pub same_value : ValueTree → ValueTree → Bool
same_value v w = is_eq (order v w)

-- the row is as the other one was
abbrev pub same_row : RowTree → RowTree → Bool
same_row r s =
    bytes_eq (status_name r.row.status) (status_name s.row.status)
    && bytes_eq r.row.code s.row.code
    && same_value r.row.inputs s.row.inputs
    && same_value r.row.outputs s.row.outputs
    && same_value r.row.error s.row.error
    && same_value r.row.tracked s.row.tracked
    && bytes_eq (attempts_text r.row.attempts) (attempts_text s.row.attempts)

-- what became of the row, where the earlier record has one of its address; `closes` says whether it is a Scope's, an If's or a Switch's
abbrev pub changed : Bool → Option RowTree → RowTree → Change
changed closes None r = Change.Redone None
changed closes (Some old) r =
    if same_row old r then Change.Kept
    else if closes && same_value old.row.inputs r.row.inputs then Change.Closed old.row.status
    else Change.Redone (Some old.row.status)

-- and where there is an earlier record, of these rows
abbrev pub change_of : Bool → Option (List RowTree) → RowTree → Option Change
change_of closes None r = None
change_of closes (Some rows) r = Some (changed closes (find_row r.address rows) r)

-- and how it ended before
abbrev pub was : List ℕ → Status → List ℕ
was word s = word ++ (codes ", was " ++ status_name s)

-- the mark of that
abbrev pub change_mark : Option Change → List Piece
change_mark None = []
change_mark (Some Change.Kept) = said (codes " ") ∷ with_text Tag.Kept (codes "kept")
change_mark (Some (Change.Closed s)) = said (codes " ") ∷ with_text Tag.Closed (was (codes "closed again") s)
change_mark (Some (Change.Redone None)) = said (codes " ") ∷ with_text Tag.Redone (codes "redone")
change_mark (Some (Change.Redone (Some s))) = said (codes " ") ∷ with_text Tag.Redone (was (codes "redone") s)
