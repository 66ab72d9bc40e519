-- WHERE THE ROWS OF A RUN COME FROM: from the answers of its actions alone, or those of an older run are kept that don't depend on what is
-- done anew.
use Rattle.std.specs.Prelude.{Option, None, Some}
use Rattle.wf_answers.specs.Inputs.{InputsTree}
use Rattle.wf_def.specs.DefTree.{DefTree}
use Rattle.wf_catalog.specs.Leaf.{BegunTree}
use Rattle.wf_catalog.specs.Environment.{fresh}
use Rattle.wf_layers.specs.Source.{Source}
use Rattle.wf_catalog.specs.Resubmitted.{pinned_source}
use Rattle.wf_catalog.specs.Source.{source}
use Rattle.wf_opening.specs.Decisions.{DecisionTree}
use Rattle.wf_opening.specs.Verdicts.{VerdictTree}
use Rattle.wf_record.specs.Record.{Row}
use Rattle.wf_record.specs.Seen.{record_tree}
use Rattle.wf_catalog.specs.Starts.{StartTree}
use Rattle.wf_actions.specs.declared.actions.Old.{Old}

abbrev pub source_by : DefTree → StartTree → InputsTree → Option Old → Source Row BegunTree DecisionTree VerdictTree
source_by d start inputs None = source d (fresh start inputs)
source_by d start inputs (Some old) = pinned_source d (record_tree old.log.now) inputs old.from.now
