-- Worked values of `list`: its words, the limit of its file, its lines and its status.
use Rattle.std.proofs.Common.{◌≡◌, [], ◌∷◌, false, None, Some, Ok, Err, refl}
use Rattle.std.specs.Prelude.{codes}
use Rattle.std.specs.Fmt.{digits}
use Rattle.wf_history.specs.History.{ListedTree}
use Rattle.wf_record.specs.declared.status.RunStatus.{RunStatus}
use Rattle.wf_top.specs.Commands.{judged_history, listed_line, listing_text, plan}
use Rattle.wf_files.specs.Fault.{fault_line}
use Rattle.wf_files.specs.Form.{listing_form}
use Rattle.wf_top.specs.Plan.{Says, Reads}
use Rattle.wf_top.specs.Served as served
use Rattle.wf_top.specs.Words.{command_of, is_traced, makes_runs}
use Rattle.wf_files.specs.declared.fault.FormFault.{FormFault}
use Rattle.wf_top.specs.declared.said.Verdict.TheVariants.{Done, History}
use Rattle.wf_top.specs.declared.words.Command.{Command}

-- ---- words

command-list : command_of (codes "list" ∷ codes "h" ∷ []) ≡ Some Command.List
command-list = refl

command-list-no_file : command_of (codes "list" ∷ []) ≡ None
command-list-no_file = refl

command-list-two_files : command_of (codes "list" ∷ codes "h" ∷ codes "h" ∷ []) ≡ None
command-list-two_files = refl

command-list-capital : command_of (codes "List" ∷ codes "h" ∷ []) ≡ None
command-list-capital = refl

list-no_runs : makes_runs Command.List ≡ false
list-no_runs = refl

list-no_events : is_traced Command.List ≡ false
list-no_events = refl

-- ---- the file

-- 64 MiB of the file that is named, and nothing else is read
list-reads : plan Command.List (codes "list" ∷ codes "h" ∷ []) ≡ Reads (codes "h") 67108864 (λ file. judged_history (listing_form file))
unfolding plan
list-reads = refl

abbrev succeeded : ListedTree
succeeded = record { run = codes "r"; status = RunStatus.Succeeded; rows = 0 }

-- ---- what is written

abbrev cancelled : ListedTree
cancelled = record { run = codes "nightly 2"; status = RunStatus.Cancelled; rows = 100 }

written-of_one : listed_line cancelled ≡ codes "run nightly 2 Cancelled rows 100\n"
unfolding digits
written-of_one = refl

written-in_order : listing_text (cancelled ∷ succeeded ∷ []) ≡ codes "run nightly 2 Cancelled rows 100\nrun r Succeeded rows 0\n"
unfolding listing_text digits
written-in_order = refl

written-of_none : listing_text [] ≡ []
unfolding listing_text
written-of_none = refl

listing-told : judged_history (Ok (succeeded ∷ [])) ≡ Says Done (codes "run r Succeeded rows 0\n")
unfolding listing_text digits
listing-told = refl

fault-told : judged_history (Err (FormFault.Line 2)) ≡ Says History (codes "history Line 2\n")
unfolding fault_line digits
fault-told = refl

too_long-told : judged_history (Err FormFault.TooLong) ≡ Says History (codes "history too long\n")
unfolding fault_line
too_long-told = refl

status-history : served.number History ≡ 7
status-history = refl
