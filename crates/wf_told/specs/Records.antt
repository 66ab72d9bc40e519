-- The records of the runs that start: what they are rests on no schedule.
use Rattle.std.specs.Prelude.{List, Result, Ok, Err, if◌then◌else◌, map, nat_le}
use Rattle.wf_answers.specs.Inputs.{InputsTree}
use Rattle.wf_def.specs.DefTree.{DefTree}
use Rattle.wf_prepare.specs.Environment.{fresh}
use Rattle.wf_prepare.specs.Record.{meaning}
use Rattle.wf_record.specs.Record.{RecordTree}
use Rattle.wf_prepare.specs.Runs.{runs_of}
use Rattle.wf_prepare.specs.Starts.{StartTree}
use Rattle.wf_prepare.specs.TriggerFault.{TriggerFault}
use Rattle.wf_told.specs.Text.{total_cost}
use Rattle.wf_told.specs.declared.fault.RunsFault.{RunsFault}

-- the record of each run: what the definition means in the environment of a run that isn't made from another
abbrev pub records_of : DefTree → InputsTree → List StartTree → List RecordTree
records_of d inputs starts = map (λ start. meaning d (fresh start inputs)) starts

-- The runs of one command cost at most 2^26 together.
abbrev pub records_within : List RecordTree → Result (List RecordTree) RunsFault
records_within records = if nat_le (total_cost records) 67108864 then Ok records else Err RunsFault.TooLarge

abbrev pub started_records : DefTree → InputsTree → Result (List StartTree) TriggerFault → Result (List RecordTree) RunsFault
started_records d inputs (Ok starts) = records_within (records_of d inputs starts)
started_records d inputs (Err fault) = Err (RunsFault.Trigger fault)

-- the starts of the runs that the inputs start
abbrev pub starts_of : DefTree → InputsTree → Result (List StartTree) TriggerFault
starts_of d inputs = runs_of d.parameters d.given d.triggers inputs

-- THE RECORDS of the runs that start, or why there are none
abbrev pub runs_records : DefTree → InputsTree → Result (List RecordTree) RunsFault
runs_records d inputs = started_records d inputs (starts_of d inputs)
