-- How a status looks.
use Rattle.std.specs.Prelude.{ℕ, List, [], ◌∷◌}
use Rattle.wf_html.specs.Html.{Piece, with_text}
use Rattle.wf_html.specs.declared.tag.Look.{Look}
use Rattle.wf_html.specs.declared.tag.Tag.{Tag}
use Rattle.wf_record.specs.Record.{RowTree}
use Rattle.wf_record.specs.declared.status.Status.{Status}

abbrev pub look_of : Status → Look
look_of Status.Succeeded = Look.Succeeded
look_of Status.Failed = Look.Failed
look_of Status.Skipped = Look.Skipped
look_of Status.TimedOut = Look.TimedOut
look_of Status.Cancelled = Look.Cancelled

-- how an action looks that has these rows
abbrev pub look_of_rows : List RowTree → Look
look_of_rows [] = Look.Absent
look_of_rows (r ∷ []) = look_of r.row.status
look_of_rows (r ∷ s ∷ rs) = Look.Several

-- a word that stands for a status
abbrev pub mark : Status → List ℕ → List Piece
mark s word = with_text (Tag.Mark (look_of s)) word
