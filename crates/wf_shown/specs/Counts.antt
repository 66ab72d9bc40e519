-- How many rows have each status.
use Rattle.std.specs.Prelude.{ℕ, Bool, List, [], ◌∷◌, ◌++◌, if◌then◌else◌, nat_eq, bytes_eq, codes, count_by, decimal}
use Rattle.wf_html.specs.Html.{Piece, said}
use Rattle.wf_record.specs.Record.{RowTree, status_name}
use Rattle.wf_record.specs.declared.status.Status.{Status}
use Rattle.wf_shown.specs.Looks.{mark}

abbrev pub has_status : Status → RowTree → Bool
has_status s r = bytes_eq (status_name s) (status_name r.row.status)

-- how many have a status, and its word; nothing where none has
abbrev pub count_mark : Status → ℕ → List Piece
count_mark s n = if nat_eq n 0 then [] else said (codes " ") ∷ mark s (decimal n ++ 32 ∷ status_name s)

abbrev pub count_of : Status → List RowTree → List Piece
count_of s rs = count_mark s (count_by (has_status s) rs)

abbrev pub counts : List RowTree → List Piece
counts rs =
    count_of Status.Succeeded rs ++ (count_of Status.Failed rs ++ (count_of Status.Skipped rs ++ (count_of Status.TimedOut rs
    ++ count_of Status.Cancelled rs)))
