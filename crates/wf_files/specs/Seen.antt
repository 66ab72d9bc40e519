-- What is found of a run in a history, as contracts see it.
use Rattle.std.specs.Prelude.{Result, Ok, Err}
use Rattle.wf_record.specs.Record.{RecordTree}
use Rattle.wf_record.specs.Seen.{record_tree}
use Rattle.wf_record.specs.declared.record.Record.{Record}
use Rattle.wf_files.specs.declared.fault.FindFault.{FindFault}

abbrev pub found_tree : Result Record FindFault → Result RecordTree FindFault
found_tree (Ok r) = Ok (record_tree r)
found_tree (Err fault) = Err fault
