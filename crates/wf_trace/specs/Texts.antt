-- WHAT STANDS IN A TRACE FOR what an event came to. A fault stands behind an exclamation mark.
use Rattle.std.specs.Prelude.{ℕ, zero, suc, Bool, true, false, List, [], ◌∷◌, ◌++◌, length, Option, None, cond, bytes_eq, codes, decimal, slice_get}
use Rattle.wf_val.specs.ValueTree.{ValueTree, null, boolean, number, text, list, object}
use Rattle.wf_json.specs.FaultText.{fault_text}
use Rattle.wf_json.specs.Json.{json, string}
use Rattle.wf_layers.specs.Definition.{is_one, less_one}
use Rattle.wf_def.specs.ActionTree.{KindTree, switch, switch_else, CaseTree, CaseTrees, no_cases, case_then}
use Rattle.wf_record.specs.Record.{Row, status_name}
use Rattle.wf_record.specs.declared.attempt.Try.{Try}
use Rattle.wf_done.specs.Done.{DoneTree}
use Rattle.wf_done.specs.Leaf.{BegunTree, acted, calling}
use Rattle.wf_opening.specs.Decisions.{DecisionTree, nothing, held, chosen, each, too_many, faulty}
use Rattle.wf_opening.specs.Verdicts.{VerdictTree, met, astray}

abbrev pub truth_text : Bool → List ℕ
truth_text true = codes "true"
truth_text false = codes "false"

-- ---- what a leaf takes in as it starts: its inputs, or why they have no value

-- the code of an action that found no value for what it asked
abbrev pub is_faulted : DoneTree → Bool
is_faulted d = bytes_eq d.code (codes "InvalidTemplate")

abbrev pub text_of : ValueTree → List ℕ
text_of (text t) = t
text_of null = []
text_of (boolean b) = []
text_of (number n) = []
text_of (list ts) = []
text_of (object ms) = []

abbrev pub start_text : BegunTree → List ℕ
start_text (calling inputs policy) = json inputs
start_text (acted d) = cond (is_faulted d) (codes "!" ++ text_of d.error) (json d.inputs)

-- ---- what an attempt came to

abbrev pub try_text : Try → List ℕ
try_text (Try.Code n) = decimal n
try_text Try.NoConnection = codes "noConnection"
try_text Try.TimedOut = codes "timedOut"
try_text Try.NoAnswer = codes "noAnswer"
try_text Try.Unknown = codes "unknown"

-- ---- how an action ended: its status, and what it gave out

abbrev pub end_text : Row → List ℕ
end_text r = status_name r.status ++ 32 ∷ json r.outputs

-- ---- what a container decides as it opens

abbrev pub cases_of : KindTree → CaseTrees
cases_of (switch on cases) = cases
cases_of (switch_else on cases default) = cases
cases_of kind = no_cases

-- the name of a case, counted from 1; else it is the default that is meant, whether there is one or not
abbrev pub case_text : CaseTrees → ℕ → List ℕ
case_text no_cases n = codes "default"
case_text (case_then name value graph rest) n = cond (is_one n) (string name) (case_text rest (less_one n))

-- the case of a number, from a list
abbrev pub case_at : List CaseTree → ℕ → Option CaseTree
case_at cases zero = None
case_at cases (suc k) = slice_get cases k

-- behind a blank: of a Foreach how many items there are; where nothing is decided nothing, and no blank
abbrev pub open_text : KindTree → DecisionTree → List ℕ
open_text kind nothing = []
open_text kind (held b) = 32 ∷ truth_text b
open_text kind (chosen value branch) = 32 ∷ case_text (cases_of kind) branch
open_text kind (each ts) = 32 ∷ decimal (length ts)
open_text kind too_many = codes " !LimitExceeded"
open_text kind (faulty f) = codes " !" ++ fault_text f

-- ---- what the test of an Until gives

abbrev pub verdict_text : VerdictTree → List ℕ
verdict_text (met b) = truth_text b
verdict_text (astray f) = codes "!" ++ fault_text f
