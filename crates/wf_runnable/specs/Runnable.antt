-- A DEFINITION THAT WAS MADE READY for its runs, and what a run of it leaves, by what the calls are given.
use Rattle.std.specs.Prelude.{List}
use Rattle.wf_answers.specs.InputsSeen.{inputs_tree}
use Rattle.wf_answers.specs.declared.inputs.Inputs.{Inputs}
use Rattle.wf_asks.specs.Known.{store_in}
use Rattle.wf_asks.specs.declared.known.RowAt.{RowAt}
use Rattle.wf_asks.specs.declared.known.WriterAt.{WriterAt}
use Rattle.wf_def.specs.DefTree.{DefTree}
use Rattle.wf_ended.specs.Ended.{HasEnded}
use Rattle.wf_environment.specs.Environment.{Environment, fresh}
use Rattle.wf_environment.specs.Start.{Start}
use Rattle.wf_environment.specs.StartsSeen.{start_tree}
use Rattle.wf_actions.specs.Kept.{IsPlanned}
use Rattle.wf_actions.specs.Points.{graph_of}
use Rattle.wf_actions.specs.Record.{meaning, record_of_table}
use Rattle.wf_actions.specs.Seen.{rows_seen}
use Rattle.wf_plan.specs.PlanSeen.{plan_tree}
use Rattle.wf_plan.specs.declared.plan.Plan.{Plan}
use Rattle.wf_reading.specs.ReadSeen.{def_tree}
use Rattle.wf_record.specs.Record.{RecordTree}
use Rattle.wf_record.specs.declared.row.Row.{Row}
use Rattle.wf_rules.specs.declared.checked.Checked.{Checked}

-- the definition of one that was accepted, and the environment of a run that begins so
abbrev pub definition : Checked → DefTree
definition checked = def_tree checked.def

abbrev pub begun_with : Start → Inputs → Environment
begun_with start inputs = fresh (start_tree start) (inputs_tree inputs)

-- the plan is one of the definition
abbrev pub Plans : Plan → Checked → Type 0
Plans plan checked = IsPlanned (graph_of (definition checked)) (plan_tree plan)

-- what the definition means
abbrev pub meant_record : Checked → Start → Inputs → RecordTree
meant_record checked start inputs = meaning (definition checked) (begun_with start inputs)

-- ---- what is left at the end of a run

abbrev pub IsEnded : Checked → Start → Inputs → List (RowAt Row) → List WriterAt → Type 0
IsEnded checked start inputs rows store =
    HasEnded (definition checked) (begun_with start inputs) (rows_seen rows) (store_in store)

-- the record of a run that began so and has these rows
abbrev pub record_left : Checked → Start → Inputs → List (RowAt Row) → RecordTree
record_left checked start inputs rows = record_of_table (definition checked) (begun_with start inputs) (rows_seen rows)
