-- Each row of an action is shown, or counted.
use Rattle.std.specs.Prelude.{ℕ, ◌+◌, List, count_by, length, map}
use Rattle.std.specs.List.{sum_by}
use Rattle.wf_record.specs.Record.{RowTree}
use Rattle.wf_record.specs.declared.status.Status.{Status}
use Rattle.wf_val.specs.Address.{indexes_text}
use Rattle.wf_shown.specs.Counts.{has_status}
use Rattle.wf_shown.specs.Rows.{is_of, rows_of}

-- where rows stand, in words
abbrev pub places : List RowTree → List (List ℕ)
places rs = map (λ r. indexes_text r.address.at) rs

-- how many rows are counted, whatever status they have
abbrev pub counted_in_all : List RowTree → ℕ
counted_in_all rs =
    count_by (has_status Status.Succeeded) rs + (count_by (has_status Status.Failed) rs + (count_by (has_status Status.Skipped) rs
    + (count_by (has_status Status.TimedOut) rs + count_by (has_status Status.Cancelled) rs)))

-- how many names a row is of
abbrev pub owners : List (List ℕ) → RowTree → ℕ
owners names r = count_by (λ name. is_of name r) names

-- how many rows the names have together
abbrev pub owned : List (List ℕ) → List RowTree → ℕ
owned names rows = sum_by (λ name. length (rows_of name rows)) names
