-- What a history comes to as a form: what `list` of wf_history says of it.
use Rattle.std.proofs.Common.{◌≡◌, ℕ, List, Result, Ok, Err, refl}
use Rattle.wf_history.specs.History.{Kept, ListedTree, if_listed}
use Rattle.wf_history.specs.declared.fault.HistoryFault.{HistoryFault}
use Rattle.wf_files.specs.Form.{or_line_fault}
use Rattle.wf_files.specs.declared.fault.FormFault.{FormFault}

pub records_listed : (records : Result (List Kept) ℕ) (listing : List ListedTree) → if_listed records ≡ Ok listing
    → or_line_fault records ≡ Ok listing
records_listed (Ok kept) listing is = cc
records_listed (Err number) listing is = absurd (cc)

pub line_told : (records : Result (List Kept) ℕ) (number : ℕ) → if_listed records ≡ Err (HistoryFault.Line number)
    → or_line_fault records ≡ Err (FormFault.Line number)
line_told (Ok kept) number is = absurd (cc)
line_told (Err line) number is = let same : line ≡ number = cc in rw same refl
