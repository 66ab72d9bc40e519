-- What a run leaves, as contracts see it.
use Rattle.std.specs.Prelude.{map}
use Rattle.wf_val.specs.Seen.{tree}
use Rattle.wf_record.specs.Seen.{row_tree}
use Rattle.wf_catalog.specs.Ending as meaning
use Rattle.wf_ended.specs.Left.{LeftTree}
use Rattle.wf_ended.specs.declared.ending.Ending.{Ending}
use Rattle.wf_ended.specs.declared.left.Left.{Left}

abbrev pub ending_tree : Ending → meaning.Ending
ending_tree e = record { status = e.status; error = tree e.error; outputs = tree e.outputs }

abbrev pub left_tree : Left → LeftTree
left_tree l = record { ending = ending_tree l.ending; response = tree l.response; rows = map row_tree l.rows }
