-- A record that was found, or the line that says why there is none, as contracts see it.
use Rattle.std.specs.Prelude.{ℕ, List, Result, Ok, Err}
use Rattle.wf_record.specs.Record.{RecordTree}
use Rattle.wf_record.specs.Seen.{record_tree}
use Rattle.wf_page.specs.declared.logs.Log as code

abbrev pub log_tree : code.Log → Result RecordTree (List ℕ)
log_tree (code.TheVariants.Found r) = Ok (record_tree r)
log_tree (code.TheVariants.Missing line) = Err line.items
