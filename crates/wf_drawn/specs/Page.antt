-- A whole page.
use Rattle.std.specs.Prelude.{ℕ, List, [], ◌∷◌, ◌++◌, Option, None, Some, codes, option_map, unwrap_or}
use Rattle.wf_def.specs.ActionTree.{ActionTrees}
use Rattle.wf_drawn.specs.Drawn.{graph_pieces, inside}
use Rattle.wf_drawn.specs.Levels.{levels}
use Rattle.wf_drawn.specs.Views.{ViewTree}
use Rattle.wf_html.specs.Html.{Piece, said, with_text, written}
use Rattle.wf_html.specs.declared.tag.Look.{Look}
use Rattle.wf_html.specs.declared.tag.Tag.{Tag}
use Rattle.wf_record.specs.Record.{RecordTree, run_status_name}
use Rattle.wf_record.specs.declared.status.RunStatus.{RunStatus}
use Rattle.wf_shown.specs.Facts.{fact, fact_of_members}
use Rattle.wf_val.specs.Get.{get}
use Rattle.wf_val.specs.ValueTree.{ValueTree, null}

abbrev pub run_look : RunStatus → Look
run_look RunStatus.Succeeded = Look.Succeeded
run_look RunStatus.Failed = Look.Failed
run_look RunStatus.Cancelled = Look.Cancelled

-- what an earlier record is named by
abbrev pub beside : Option RecordTree → List Piece
beside None = []
beside (Some old) = inside Tag.Line (said (codes "beside ") ∷ said old.run ∷ [])

-- what the trigger gave
abbrev pub given : ValueTree → ValueTree
given trigger = unwrap_or (get (codes "outputs") trigger) null

-- what is said of the run as a whole
abbrev pub header : RecordTree → Option RecordTree → List Piece
header r earlier =
    inside Tag.Header (
    with_text Tag.Heading r.run
    ++ (inside Tag.Line (with_text (Tag.Mark (run_look r.status)) (run_status_name r.status))
    ++ (beside earlier
    ++ inside Tag.Facts (fact (codes "error") r.error ++ (fact (codes "response") r.response ++ (fact_of_members (codes "outputs") r.outputs
    ++ fact (codes "trigger") (given r.trigger))))))
    )

abbrev pub view_of : ActionTrees → RecordTree → Option RecordTree → ViewTree
view_of graph r earlier = record { rows = r.rows; earlier = option_map (λ old. old.rows) earlier; levels = levels graph }

-- the page of a definition's graph, a record, and an earlier one where there is one
abbrev pub page_pieces : ActionTrees → RecordTree → Option RecordTree → List Piece
page_pieces graph r earlier =
    inside Tag.Page (
    with_text Tag.Title r.run ++ inside Tag.Body (header r earlier ++ graph_pieces (view_of graph r earlier) graph)
    )

unfoldable pub page : ActionTrees → RecordTree → Option RecordTree → List ℕ
page graph r earlier = written [] (page_pieces graph r earlier)
