-- Steps and judged graphs as contracts see them.
use Rattle.std.specs.Prelude.{map}
use Rattle.wf_record.specs.Record as record_of
use Rattle.wf_record.specs.Seen.{row_tree}
use Rattle.wf_record.specs.declared.row.Row.{Row}
use Rattle.wf_closing.specs.Steps.{JudgedTree, StepTree}
use Rattle.wf_closing.specs.declared.judged.Judged.{Judged}
use Rattle.wf_closing.specs.declared.judged.Step.{Step}

abbrev pub step_tree : Step → StepTree
step_tree s = record { number = s.number; after = s.after.items }

abbrev pub judged_tree : Judged → JudgedTree
judged_tree j = record { size = j.size; steps = map step_tree j.steps.items; ends = j.ends.items }

-- what is recorded of an action, its address apart
abbrev pub row_content : Row → record_of.Row
row_content r = (row_tree r).row
