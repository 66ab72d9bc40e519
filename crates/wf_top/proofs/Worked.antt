-- Worked values of the definitions of this crate: its limits, words, lines and statuses.
use Rattle.std.proofs.Common.{◌≡◌, ℕ, List, [], ◌∷◌, ◌++◌, Bool, true, false, Option, None, Some, Ok, Err, inl, inr, replicate, refl}
use lib.Utf8.{encode}
use Rattle.std.specs.Prelude.{codes}
use Rattle.std.specs.Str.{chars}
use Rattle.std.specs.Fmt.{digits}
use Rattle.wf_answers.specs.Inputs.{InputsTree}
use Rattle.wf_def.specs.ActionTree.{ActionTree, action, KindTree, compose, scope, ActionTrees, no_actions, action_then}
use Rattle.wf_def.specs.DefTree.{DefTree, TriggerTree}
use Rattle.wf_json.specs.Json.{string}
use Rattle.wf_outside.specs.Outside.{Held}
use Rattle.wf_told.specs.Records.{runs_records}
use Rattle.wf_told.specs.Runs.{TellsRuns}
use Rattle.wf_template.specs.DataTree as data_
use Rattle.wf_template.specs.ExprTree.{call, expr_trees}
use Rattle.wf_template.specs.TemplateTree.{whole}
use Rattle.wf_top.specs.Commands.{accepted, accepted_line, judged_definition, judged_inputs, judged_schedule, judged_value, plan, recurs}
use Rattle.wf_top.specs.Commands.{run, scheduled, triggered}
use Rattle.wf_files.specs.Fault.{fault_line}
use Rattle.wf_top.specs.Plan.{Plan, Says, Reads, Makes, Remakes, Drills, Talks, MaySay, within}
use Rattle.wf_top.specs.Served as served
use Rattle.wf_top.specs.Trigger.{trigger_line, trigger_words}
use Rattle.jiff_core.specs.Calendar.{days_of_months}
use Rattle.wf_fn_time.specs.Calendar.{day_at, days_of_first_years}
use Rattle.wf_recur.specs.declared.fault.RecurrenceFault.{RecurrenceFault}
use Rattle.wf_top.specs.Fires.{moments_text, recurrence_line, recurrence_words, trigger_in}
use Rattle.wf_val.specs.ValueTree.{ValueTree, boolean, list, members, null, object, trees}
use Rattle.wf_top.specs.Words.{command_of, count_of, is_traced, makes_runs, schedule_word, size_of}
use Rattle.wf_files.specs.declared.fault.FormFault.{FormFault}
use Rattle.wf_told.specs.declared.fault.RunsFault.{RunsFault}
use Rattle.wf_top.specs.declared.said.Verdict.TheVariants.{Done, Definition, Inputs, TooLarge}
use Rattle.wf_top.specs.declared.words.Command.{Command}
use Rattle.wf_top.specs.declared.words.Command.TheVariants.{Check, Run, Trace, Drill, Fires}
use Rattle.wf_trigger.specs.declared.fault.TriggerFault.{TriggerFault}
use Rattle.wf_val.specs.declared.fault.EvalFault.{EvalFault}
use Rattle.wf_val.specs.declared.function.Fun.{Fun}

-- ---- limits

-- so many letters `a`
abbrev letters : ℕ → List ℕ
letters count = replicate count 97

-- the limit of the file that a plan reads first, and its name
abbrev first_limit : Plan → ℕ
first_limit (Says verdict said) = 0
first_limit (Reads name limit next) = limit
first_limit (Makes traced d inputs schedule) = 0
first_limit (Remakes d r names inputs schedule) = 0
first_limit (Drills n d inputs) = 0
first_limit (Talks d start inputs) = 0

abbrev first_name : Plan → List ℕ
first_name (Says verdict said) = []
first_name (Reads name limit next) = name
first_name (Makes traced d inputs schedule) = []
first_name (Remakes d r names inputs schedule) = []
first_name (Drills n d inputs) = []
first_name (Talks d start inputs) = []

-- words of a command and its files
abbrev words_of : List ℕ → ℕ → List (List ℕ)
words_of name files = name ∷ replicate files (letters 1)

-- 4 MiB
definition-limit-check : first_limit (plan Check (words_of (codes "check") 1)) ≡ 4194304
unfolding plan
definition-limit-check = refl

definition-limit-run : first_limit (plan Run (words_of (codes "run") 2)) ≡ 4194304
unfolding plan
definition-limit-run = refl

definition-limit-trace : first_limit (plan Trace (words_of (codes "trace") 3)) ≡ 4194304
unfolding plan
definition-limit-trace = refl

-- 64 MiB
inputs-limit : (traced : Bool) (d : DefTree) → first_limit (run traced (letters 2) None d) ≡ 67108864
inputs-limit traced d = refl

schedule-limit : (traced : Bool) (d : DefTree) (inputs : InputsTree) → first_limit (scheduled traced (Some (letters 3)) d inputs) ≡ 67108864
schedule-limit traced d inputs = refl

within-limit : within 3 (letters 3) ≡ Some (letters 3)
within-limit = refl

within-one_more : within 3 (letters 4) ≡ None
within-one_more = refl

-- DEF is the first file, INPUTS the second and SCHEDULE the third
abbrev two_files : List ℕ → List (List ℕ)
two_files name = name ∷ (letters 1 ∷ (letters 2 ∷ []))

abbrev three_files : List ℕ → List (List ℕ)
three_files name = name ∷ (letters 1 ∷ (letters 2 ∷ (letters 3 ∷ [])))

first-definition : first_name (plan Run (two_files (codes "run"))) ≡ letters 1
unfolding plan
first-definition = refl

first-definition-trace : first_name (plan Trace (three_files (codes "trace"))) ≡ letters 1
unfolding plan
first-definition-trace = refl

second-inputs : (d : DefTree) → first_name (accepted Run (two_files (codes "run")) d) ≡ letters 2
second-inputs d = refl

second-inputs-trace : (d : DefTree) → first_name (accepted Trace (three_files (codes "trace")) d) ≡ letters 2
second-inputs-trace d = refl

-- what is read behind inputs that are of their form: SCHEDULE, or nothing at `run` with two files
third-schedule : (traced : Bool) (d : DefTree) (inputs : InputsTree) →
    first_name (judged_inputs traced (schedule_word (three_files (codes "run"))) d (Ok inputs)) ≡ letters 3
third-schedule traced d inputs = refl

third-none : (d : DefTree) (inputs : InputsTree) →
    judged_inputs false (schedule_word (two_files (codes "run"))) d (Ok inputs) ≡ Makes false d inputs []
third-none d inputs = refl

-- `run` writes no events, also under a schedule, and `trace` does
untraced-run : (d : DefTree) → accepted Run (three_files (codes "run")) d ≡ run false (letters 2) (Some (letters 3)) d
untraced-run d = refl

traced-trace : (d : DefTree) → accepted Trace (three_files (codes "trace")) d ≡ run true (letters 2) (Some (letters 3)) d
traced-trace d = refl

-- ---- words

command-check : command_of (words_of (codes "check") 1) ≡ Some Check
command-check = refl

command-check-no_file : command_of (words_of (codes "check") 0) ≡ None
command-check-no_file = refl

command-check-two_files : command_of (words_of (codes "check") 2) ≡ None
command-check-two_files = refl

command-run : command_of (words_of (codes "run") 2) ≡ Some Run
command-run = refl

command-run-one_file : command_of (words_of (codes "run") 1) ≡ None
command-run-one_file = refl

command-run-three_files : command_of (words_of (codes "run") 3) ≡ Some Run
command-run-three_files = refl

command-run-four_files : command_of (words_of (codes "run") 4) ≡ None
command-run-four_files = refl

command-trace : command_of (words_of (codes "trace") 3) ≡ Some Trace
command-trace = refl

command-trace-two_files : command_of (words_of (codes "trace") 2) ≡ None
command-trace-two_files = refl

command-trace-four_files : command_of (words_of (codes "trace") 4) ≡ None
command-trace-four_files = refl

command-capital : command_of (words_of (codes "Run") 2) ≡ None
command-capital = refl

command-longer : command_of (words_of (codes "checks") 1) ≡ None
command-longer = refl

command-drill : command_of (codes "drill" ∷ codes "7" ∷ []) ≡ Some (Drill 7)
command-drill = refl

command-drill-greatest : command_of (codes "drill" ∷ codes "400" ∷ []) ≡ Some (Drill 400)
command-drill-greatest = refl

command-drill-one_more : command_of (codes "drill" ∷ codes "401" ∷ []) ≡ None
command-drill-one_more = refl

command-drill-zero_in_front : command_of (codes "drill" ∷ codes "01" ∷ []) ≡ None
command-drill-zero_in_front = refl

command-drill-letters : command_of (words_of (codes "drill") 1) ≡ None
command-drill-letters = refl

command-drill-two_words : command_of (words_of (codes "drill") 2) ≡ None
command-drill-two_words = refl

command-drill-no_word : command_of (codes "drill" ∷ []) ≡ None
command-drill-no_word = refl

size-none : size_of [] ≡ None
size-none = refl

size-zero : size_of (codes "0") ≡ None
size-zero = refl

size-one : size_of (codes "1") ≡ Some 1
size-one = refl

size-greatest : size_of (codes "400") ≡ Some 400
size-greatest = refl

size-one_more : size_of (codes "401") ≡ None
size-one_more = refl

size-zero_in_front : size_of (codes "0400") ≡ None
size-zero_in_front = refl

size-long : size_of (codes "18446744073709551617") ≡ None
size-long = refl

abbrev fires_words : List ℕ → List ℕ → List (List ℕ)
fires_words from count = codes "fires" ∷ letters 1 ∷ letters 2 ∷ from ∷ count ∷ []

command-fires : command_of (fires_words (codes "0001-01-01T00:01") (codes "3")) ≡ Some (Fires 600000000 3)
unfolding days_of_first_years days_of_months
command-fires = refl

command-fires-no_moment : command_of (fires_words (codes "now") (codes "3")) ≡ None
command-fires-no_moment = refl

command-fires-no_number : command_of (fires_words (codes "0001-01-01") (codes "many")) ≡ None
unfolding days_of_first_years days_of_months
command-fires-no_number = refl

command-fires-three_words : command_of (words_of (codes "fires") 3) ≡ None
command-fires-three_words = refl

count-none : count_of [] ≡ None
count-none = refl

count-zero : count_of (codes "0") ≡ None
count-zero = refl

count-one : count_of (codes "1") ≡ Some 1
count-one = refl

count-zero_in_front : count_of (codes "01") ≡ None
count-zero_in_front = refl

count-greatest : count_of (codes "1000") ≡ Some 1000
count-greatest = refl

count-one_more : count_of (codes "1001") ≡ None
count-one_more = refl

count-long : count_of (codes "18446744073709551617") ≡ None
count-long = refl

count-sign : count_of (codes "+1") ≡ None
count-sign = refl

count-letter : count_of (codes "1a") ≡ None
count-letter = refl

command-none : command_of [] ≡ None
command-none = refl

-- `check` makes no runs and tells no events
check-no_runs : makes_runs Check ≡ false
check-no_runs = refl

check-no_events : is_traced Check ≡ false
check-no_events = refl

-- ---- faults of triggers

trigger-none : trigger_line TriggerFault.NoTrigger ≡ codes "trigger NoTrigger\n"
unfolding trigger_line
trigger-none = refl

-- `fires`: the trigger of a name is sought in the definition, or in the one that a wrapper has
trigger-there : trigger_in (letters 1) (object (members ((codes "triggers", object (members ((letters 1, boolean true) ∷ []))) ∷ [])))
    ≡ Some (boolean true)
trigger-there = refl

trigger-other : trigger_in (letters 2) (object (members ((codes "triggers", object (members ((letters 1, boolean true) ∷ []))) ∷ [])))
    ≡ None
trigger-other = refl

trigger-no_section : trigger_in (letters 1) (object (members [])) ≡ None
trigger-no_section = refl

trigger-wrapped : trigger_in (letters 1) (object (members ((
  codes "definition",
  object (members ((codes "triggers", object (members ((letters 1, null) ∷ []))) ∷ [])),
) ∷ []))) ≡ Some null
trigger-wrapped = refl

trigger-missing : (from count : ℕ) → triggered from count None ≡ Says Inputs (codes "recurrence NoTrigger\n")
unfolding recurrence_line
trigger-missing from count = refl

recurs-other : (from count : ℕ) → recurs from count (Err RecurrenceFault.NotRecurrence) ≡ Says Inputs (codes "recurrence NotRecurrence\n")
unfolding recurrence_line
recurs-other from count = refl

recurs-form : (pointer : List ℕ) → recurrence_words (RecurrenceFault.Form pointer) ≡ codes "Form " ++ string pointer
recurs-form pointer = refl

recurs-zone : (name : List ℕ) → recurrence_words (RecurrenceFault.Zone name) ≡ codes "Zone " ++ string name
recurs-zone name = refl

value-refused : (name : List ℕ) (from count : ℕ) → judged_value name from count (Err FormFault.NotJson)
    ≡ Says Definition (codes "definition NotJson\n")
unfolding fault_line
value-refused name from count = refl

moments-none : moments_text [] ≡ codes "# none\n"
unfolding moments_text
moments-none = refl

moments-two : moments_text (0 ∷ 600000001 ∷ []) ≡ codes "0001-01-01T00:00:00.0000000Z\n0001-01-01T00:01:00.0000001Z\n"
unfolding moments_text day_at chars encode
moments-two = refl

trigger-parameter : (name : List ℕ) → trigger_words (TriggerFault.NoParameter name) ≡ codes "NoParameter " ++ string name
trigger-parameter name = refl

trigger-type : (name : List ℕ) → trigger_words (TriggerFault.ParameterType name) ≡ codes "ParameterType " ++ string name
trigger-type name = refl

trigger-allowed : (name : List ℕ) → trigger_words (TriggerFault.NotAllowed name) ≡ codes "NotAllowed " ++ string name
trigger-allowed name = refl

trigger-split : trigger_words (TriggerFault.Split (EvalFault.Range Fun.Div)) ≡ codes "Split Range div"
trigger-split = refl

trigger-no_list : trigger_words TriggerFault.SplitNotList ≡ codes "SplitNotList"
trigger-no_list = refl

trigger-long_split : trigger_words (TriggerFault.SplitTooLong 100001) ≡ codes "SplitTooLong 100001"
unfolding digits
trigger-long_split = refl

trigger-condition : trigger_words (TriggerFault.Condition (EvalFault.WrongType Fun.Condition 0)) ≡ codes "Condition WrongType condition 0"
unfolding digits
trigger-condition = refl

-- ---- what follows from what was found, in the order of the tests

abbrev some_fault : FormFault
some_fault = FormFault.NotJson

-- a faulty definition is told before anything of the inputs, by each command
definition-told : (command : Command) (words : List (List ℕ)) →
    judged_definition command words (Err some_fault) ≡ Says Definition (codes "definition NotJson\n")
unfolding fault_line
definition-told command words = refl

-- a fault of the inputs is told before anything of the schedule, and one of the schedule before anything of the runs
inputs-told : (traced : Bool) (schedule : Option (List ℕ)) (d : DefTree) →
    judged_inputs traced schedule d (Err FormFault.Moment) ≡ Says Inputs (codes "inputs Moment\n")
unfolding fault_line
inputs-told traced schedule d = refl

schedule-told : (traced : Bool) (d : DefTree) (inputs : InputsTree) →
    judged_schedule traced d inputs (Err (FormFault.Line 2)) ≡ Says Inputs (codes "schedule Line 2\n")
unfolding fault_line digits
schedule-told traced d inputs = refl

schedule-taken : (traced : Bool) (d : DefTree) (inputs : InputsTree) (numbers : List ℕ) →
    judged_schedule traced d inputs (Ok numbers) ≡ Makes traced d inputs numbers
schedule-taken traced d inputs numbers = refl

-- each text that is told of the runs may be said of them, whether the files tell or not
runs-told : (held : Held) (traced : Bool) (d : DefTree) (inputs : InputsTree) (schedule text : List ℕ)
    → TellsRuns d inputs schedule traced text → MaySay held (Makes traced d inputs schedule) Done text
runs-told held traced d inputs schedule text told = inl (refl, told)

cost-told : (held : Held) (traced : Bool) (d : DefTree) (inputs : InputsTree) (schedule : List ℕ)
    → runs_records d inputs ≡ Err RunsFault.TooLarge → MaySay held (Makes traced d inputs schedule) TooLarge (codes "too large\n")
cost-told held traced d inputs schedule over = inr (RunsFault.TooLarge, over, (refl, refl))

-- ---- accepted definitions

abbrev leaf : List ℕ → ActionTree
leaf name = action name 0 [] [] (compose data_.null) []

abbrev container : List ℕ → KindTree → ActionTree
container name kind = action name 0 [] [] kind []

abbrev two_leaves : ActionTrees
two_leaves = action_then (leaf (codes "A")) (action_then (leaf (codes "B")) no_actions)

abbrev definition_with : ActionTrees → DefTree
definition_with top = record { digest = []; parameters = []; given = []; triggers = []; top = top; outputs = [] }

accepted-none : accepted_line (definition_with no_actions) ≡ codes "accepted 0\n"
unfolding accepted_line digits
accepted-none = refl

accepted-two : accepted_line (definition_with two_leaves) ≡ codes "accepted 2\n"
unfolding accepted_line digits
accepted-two = refl

-- those inside count too
accepted-inner : accepted_line (definition_with (action_then (container (codes "S") (scope two_leaves)) two_leaves)) ≡ codes "accepted 5\n"
unfolding accepted_line digits
accepted-inner = refl

-- ---- runs

abbrev inputs_with : Option (List ℕ) → ValueTree → InputsTree
inputs_with name body = record {
  run = codes "r";
  seed = codes "s";
  moment = 0;
  trigger = name;
  outputs = object (members ((codes "body", body) ∷ []));
  parameters = [];
  answers = [];
}

-- a run for each item of the trigger's body
abbrev split_body : TriggerTree
split_body = record { name = codes "t"; split = Some (whole (call (codes "triggerBody") (expr_trees []))); conditions = [] }

abbrev split_definition : DefTree
split_definition = record { digest = []; parameters = []; given = []; triggers = split_body ∷ []; top = two_leaves; outputs = [] }

-- inputs that name a trigger which the definition hasn't
no_trigger-told : (held : Held) (traced : Bool) (schedule : List ℕ)
    → MaySay held (Makes traced (definition_with two_leaves) (inputs_with (Some (letters 1)) null) schedule) Inputs
    (codes "trigger NoTrigger\n")
unfolding trigger_line
no_trigger-told held traced schedule = inr (RunsFault.Trigger TriggerFault.NoTrigger, refl, (refl, refl))

no_list-told : (held : Held) (traced : Bool) (schedule : List ℕ)
    → MaySay held (Makes traced split_definition (inputs_with None null) schedule) Inputs (codes "trigger SplitNotList\n")
unfolding trigger_line
no_list-told held traced schedule = inr (RunsFault.Trigger TriggerFault.SplitNotList, refl, (refl, refl))

-- a split of nothing starts no run, and that is said
no_run-told : (held : Held) (traced : Bool) (schedule : List ℕ)
    → MaySay held (Makes traced split_definition (inputs_with None (list (trees []))) schedule) Done (codes "# no run\n")
no_run-told held traced schedule =
    inl (refl, record { starts = []; runs = []; start = refl; told = tt; records = refl; text_is = refl })

-- ---- statuses

status-done : served.number Done ≡ 0
status-done = refl

status-definition : served.number Definition ≡ 1
status-definition = refl

status-inputs : served.number Inputs ≡ 6
status-inputs = refl

status-too_large : served.number TooLarge ≡ 8
status-too_large = refl

status-misused : served.status_of served.Misused ≡ 2
status-misused = refl

status-unread : (name : List ℕ) → served.status_of (served.Unread name) ≡ 3
status-unread name = refl

status-spent : served.status_of served.Spent ≡ 5
status-spent = refl

-- every command with its words
text-misused : served.text_of served.Misused
    ≡ codes "usage: wflow check DEF"
    ++ codes " | run DEF INPUTS [SCHEDULE]"
    ++ codes " | trace DEF INPUTS SCHEDULE"
    ++ codes " | resubmit DEF HISTORY RUN ACTION INPUTS [SCHEDULE]"
    ++ codes " | resubmit-set DEF HISTORY RUN INPUTS SCHEDULE ACTION..."
    ++ codes " | list HISTORY"
    ++ codes " | drill N"
    ++ codes " | session DEF INPUTS"
    ++ codes " | fires DEF TRIGGER FROM N\n"
text-misused = refl

text-unread : (name : List ℕ) → served.text_of (served.Unread name) ≡ codes "cannot read " ++ (string name ++ codes "\n")
text-unread name = refl

text-spent : served.text_of served.Spent ≡ codes "out of memory\n"
text-spent = refl
