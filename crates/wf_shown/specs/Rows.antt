-- The rows of an action on a page.
use Rattle.std.specs.Prelude.{ℕ, Bool, List, [], ◌∷◌, ◌++◌, Option, codes, decimal, drop, flat_map, length, take}
use Rattle.std.specs.List.{filter}
use Rattle.std.specs.Ordering.{is_eq}
use Rattle.wf_html.specs.Html.{Piece, opened, closed, said, with_text}
use Rattle.wf_html.specs.declared.tag.Look.{Look}
use Rattle.wf_html.specs.declared.tag.Tag.{Tag}
use Rattle.wf_record.specs.Record.{RowTree, status_name}
use Rattle.wf_record.specs.declared.attempt.Try.{Try}
use Rattle.wf_val.specs.Address.{indexes_text}
use Rattle.wf_val.specs.NameOrder.{bytes_cmp}
use Rattle.wf_shown.specs.Changes.{attempts_text, change_mark, change_of}
use Rattle.wf_shown.specs.Counts.{counts}
use Rattle.wf_shown.specs.Facts.{fact, fact_of_members, fact_text}
use Rattle.wf_shown.specs.Looks.{mark}
use Rattle.wf_shown.specs.declared.change.Change.{Change}

-- ---- whose they are

abbrev pub is_of : List ℕ → RowTree → Bool
is_of name r = is_eq (bytes_cmp r.address.name name)

-- the rows of an action, among those of a record
abbrev pub rows_of : List ℕ → List RowTree → List RowTree
rows_of name rows = filter (is_of name) rows

-- ---- one row

abbrev pub attempts_fact : List Try → List Piece
attempts_fact [] = []
attempts_fact (t ∷ ts) = fact_text (codes "attempts") (attempts_text (t ∷ ts))

-- what is seen of a row while it is folded: of its address the numbers alone, as it stands below its action's name
abbrev pub row_head : Option Change → RowTree → List Piece
row_head c r =
    opened Tag.Summary ∷ with_text Tag.Place (indexes_text r.address.at) ++ (mark r.row.status (status_name r.row.status)
    ++ (said (codes " ") ∷ with_text Tag.Code r.row.code ++ (change_mark c ++ closed Tag.Summary ∷ [])))

-- and what is behind that
abbrev pub row_facts : RowTree → List Piece
row_facts r =
    opened Tag.Facts ∷ fact (codes "inputs") r.row.inputs ++ (fact (codes "outputs") r.row.outputs ++ (fact (codes "error") r.row.error
    ++ (fact_of_members (codes "tracked") r.row.tracked ++ (attempts_fact r.row.attempts ++ closed Tag.Facts ∷ []))))

abbrev pub row_pieces : Option Change → RowTree → List Piece
row_pieces c r = opened Tag.Fold ∷ row_head c r ++ (row_facts r ++ closed Tag.Fold ∷ [])

-- ---- several

-- how many rows are shown at most; the others are counted
abbrev pub most_shown : ℕ
most_shown = 100

abbrev pub all_shown : Bool → Option (List RowTree) → List RowTree → List Piece
all_shown closes earlier rs = flat_map (λ r. row_pieces (change_of closes earlier r) r) rs

abbrev pub counted : List RowTree → List Piece
counted rs = opened Tag.Line ∷ said (decimal (length rs) ++ codes " more:") ∷ counts rs ++ closed Tag.Line ∷ []

abbrev pub all_counted : List RowTree → List Piece
all_counted [] = []
all_counted (r ∷ rs) = counted (r ∷ rs)

abbrev pub several_head : List RowTree → List Piece
several_head rs =
    opened Tag.Summary ∷ with_text (Tag.Mark Look.Several) (decimal (length rs) ++ codes " rows") ++ (counts rs ++ closed Tag.Summary ∷ [])

abbrev pub several : Bool → Option (List RowTree) → List RowTree → List Piece
several closes earlier rs =
    opened Tag.Fold ∷ several_head rs ++ (opened Tag.Rows ∷ all_shown closes earlier (take most_shown rs)
    ++ (all_counted (drop most_shown rs) ++ closed Tag.Rows ∷ closed Tag.Fold ∷ []))

-- the rows of one action
abbrev pub rows_pieces : Bool → Option (List RowTree) → List RowTree → List Piece
rows_pieces closes earlier [] = with_text (Tag.Mark Look.Absent) (codes "no row")
rows_pieces closes earlier (r ∷ []) = row_pieces (change_of closes earlier r) r
rows_pieces closes earlier (r ∷ s ∷ rs) = several closes earlier (r ∷ s ∷ rs)
