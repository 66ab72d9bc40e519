-- What is said of what files hold.
use Rattle.std.specs.Prelude.{ℕ, List, Option, None, Some, Result, Ok, Err, codes}
use Rattle.wf_def.specs.DefTree.{DefTree}
use Rattle.wf_drawn.specs.Page.{page}
use Rattle.wf_files.specs.Fault.{fault_line}
use Rattle.wf_files.specs.Form.{definition_form}
use Rattle.wf_files.specs.declared.fault.FormFault.{FormFault}
use Rattle.wf_record.specs.Record.{RecordTree}
use Rattle.wf_page.specs.Logs.{earlier_word, log_of, record_word}

-- a status, and the whole text
pub record SaidTree : Type 0 where
  pub status : ℕ
  pub text : List ℕ

abbrev pub say : ℕ → List ℕ → SaidTree
say status text = record { status = status; text = text }

-- the page of a record, with an earlier one
abbrev pub by_both : DefTree → RecordTree → Result RecordTree (List ℕ) → SaidTree
by_both d r (Err line) = say 7 line
by_both d r (Ok old) = say 0 (page d.top r (Some old))

-- or without one
abbrev pub by_earlier : DefTree → RecordTree → Option (Option (List ℕ)) → SaidTree
by_earlier d r None = say 0 (page d.top r None)
by_earlier d r (Some file) = by_both d r (log_of earlier_word d file)

abbrev pub by_log : DefTree → Result RecordTree (List ℕ) → Option (Option (List ℕ)) → SaidTree
by_log d (Err line) earlier = say 7 line
by_log d (Ok r) earlier = by_earlier d r earlier

abbrev pub by_definition : Result DefTree FormFault → Option (List ℕ) → Option (Option (List ℕ)) → SaidTree
by_definition (Err f) log earlier = say 1 (fault_line (codes "definition ") f)
by_definition (Ok d) log earlier = by_log d (log_of record_word d log) earlier

-- what the files of a definition, a record and an earlier record hold; None stands for a file over its limit
pub record Files : Type 0 where
  pub definition : Option (List ℕ)
  pub log : Option (List ℕ)
  pub earlier : Option (Option (List ℕ))

-- the page, or why there is none: the definition is judged first, then the record, then the earlier one
abbrev pub judged : Files → SaidTree
judged files = by_definition (definition_form files.definition) files.log files.earlier
