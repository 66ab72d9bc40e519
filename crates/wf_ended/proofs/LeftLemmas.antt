-- What is left is what the record of these rows has.
use Rattle.std.proofs.Common.{◌≡◌, List, ap, ◌∙◌}
use Rattle.wf_val.specs.ValueTree.{ValueTree}
use Rattle.wf_layers.specs.Address.{Table}
use Rattle.wf_def.specs.DefTree.{DefTree}
use Rattle.wf_answers.specs.Inputs.{InputsTree}
use Rattle.wf_catalog.specs.Starts.{StartTree}
use Rattle.wf_record.specs.Record.{Row, RowTree}
use Rattle.wf_catalog.specs.Ending.{Ending}
use Rattle.wf_catalog.specs.Environment.{Environment, fresh}
use Rattle.wf_catalog.specs.Record.{ending_of, first_succeeded, is_response, record_of_table, responded, rows_of}
use Rattle.wf_ended.specs.Left.{LeftTree, left_by, recorded}

abbrev left_as : Ending → ValueTree → List RowTree → LeftTree
left_as ending response rows = record { ending = ending; response = response; rows = rows }

pub left_is : (d : DefTree) (e : Environment) (known : Table Row) (l : LeftTree) → l.ending ≡ ending_of d e known
    → l.response ≡ responded (first_succeeded d is_response known) → l.rows ≡ rows_of d known → l ≡ left_by d e known
left_is d e known l ending response rows =
    ap (λ (x : Ending). left_as x l.response l.rows) ending
    ∙ ap (λ (v : ValueTree). left_as (ending_of d e known) v l.rows) response
    ∙ ap (λ (rs : List RowTree). left_as (ending_of d e known) (responded (first_succeeded d is_response known)) rs) rows

pub left_is_recorded : (d : DefTree) (s : StartTree) (i : InputsTree) (known : Table Row) (l : LeftTree) → l ≡ left_by d (fresh s i) known
    → recorded d.digest s l ≡ record_of_table d (fresh s i) known
left_is_recorded d s i known l is = ap (recorded d.digest s) is
