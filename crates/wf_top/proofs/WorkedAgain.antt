-- Worked values of `resubmit` and `resubmit-set`: their words, the files that they read, the lines of refusals, and the order of the tests.
use Rattle.std.proofs.Common.{◌≡◌, ℕ, ◌<◌, List, [], ◌∷◌, ◌++◌, true, false, None, Some, Result, Ok, Err, inl, inr, replicate, refl}
use Rattle.std.specs.Prelude.{codes}
use Rattle.std.specs.Fmt.{digits}
use Rattle.hex.proofs.OnLiterals.{hex_on_literals}
use Rattle.wf_answers.specs.Inputs.{InputsTree}
use Rattle.wf_def.specs.ActionTree.{action, compose, no_actions, action_then}
use Rattle.wf_def.specs.DefTree.{DefTree}
use Rattle.wf_files.specs.Fault.{fault_line}
use Rattle.wf_files.specs.Form.{history_form, schedule_form}
use Rattle.wf_files.specs.declared.fault.FindFault.{FindFault}
use Rattle.wf_files.specs.declared.fault.FormFault.{FormFault}
use Rattle.wf_stands.specs.Resubmitted.{pinned}
use Rattle.wf_outside.specs.Outside.{Held}
use Rattle.wf_told.specs.Prepared.{MayBeResubmitted, named}
use Rattle.wf_record.specs.Cost.{cost}
use Rattle.wf_record.specs.Record.{RecordTree}
use Rattle.wf_record.specs.declared.status.RunStatus.{RunStatus}
use Rattle.wf_resubmit.specs.Refused.{numbers_of}
use Rattle.wf_resubmit.specs.declared.fault.ResubmitFault.{ResubmitFault}
use Rattle.wf_template.specs.DataTree as data_
use Rattle.wf_told.specs.Resubmissions.{TellsResubmission, refused, too_large}
use Rattle.wf_told.specs.declared.fault.ResubmissionFault.{ResubmissionFault}
use Rattle.wf_val.specs.ValueTree.{null}
use Rattle.wf_top.specs.Commands.{accepted, plan}
use Rattle.wf_top.specs.Plan.{Plan, Says, Reads, Makes, Remakes, Drills, Talks, MaySay}
use Rattle.wf_top.specs.Refusal.{find_line, refusal_line}
use Rattle.wf_top.specs.Resubmit.{judged, remade, remade_under, remade_with}
use Rattle.wf_top.specs.Words.{AskedTree, asked_of, command_of, is_traced, makes_runs, one_asked, resubmits, set_asked}
use Rattle.wf_top.specs.declared.said.Verdict.TheVariants.{Done, History, Inputs, TooLarge}
use Rattle.wf_top.specs.declared.words.Command.TheVariants.{Resubmit, ResubmitSet}

-- ---- words

-- a word of so many letters, and words of a command
abbrev letters : ℕ → List ℕ
letters count = replicate count 97

abbrev words_of : List ℕ → ℕ → List (List ℕ)
words_of name count = name ∷ replicate count (letters 1)

command-four_words : command_of (words_of (codes "resubmit") 4) ≡ None
command-four_words = refl

command-five_words : command_of (words_of (codes "resubmit") 5) ≡ Some Resubmit
command-five_words = refl

command-six_words : command_of (words_of (codes "resubmit") 6) ≡ Some Resubmit
command-six_words = refl

command-seven_words : command_of (words_of (codes "resubmit") 7) ≡ None
command-seven_words = refl

command-capital : command_of (words_of (codes "Resubmit") 5) ≡ None
command-capital = refl

-- without an action the words are no command, and neither are they with 501
command-no_action : command_of (words_of (codes "resubmit-set") 5) ≡ None
command-no_action = refl

command-one_action : command_of (words_of (codes "resubmit-set") 6) ≡ Some ResubmitSet
command-one_action = refl

command-500_actions : command_of (words_of (codes "resubmit-set") 505) ≡ Some ResubmitSet
command-500_actions = refl

command-501_actions : command_of (words_of (codes "resubmit-set") 506) ≡ None
command-501_actions = refl

resubmits-one : resubmits Resubmit ≡ true
resubmits-one = refl

resubmits-no_runs : makes_runs ResubmitSet ≡ false
resubmits-no_runs = refl

resubmits-no_events : is_traced Resubmit ≡ false
resubmits-no_events = refl

-- DEF is `a`, and so on
abbrev five_words : List (List ℕ)
five_words = codes "resubmit" ∷ codes "d" ∷ codes "h" ∷ codes "r" ∷ codes "A" ∷ codes "i" ∷ []

asked-five_words : one_asked five_words ≡ record {
  history = codes "h";
  run = codes "r";
  inputs = codes "i";
  schedule = None;
  names = codes "A" ∷ [];
}
asked-five_words = refl

asked-six_words : one_asked (five_words ++ codes "s" ∷ []) ≡ record {
  history = codes "h";
  run = codes "r";
  inputs = codes "i";
  schedule = Some (codes "s");
  names = codes "A" ∷ [];
}
asked-six_words = refl

abbrev set_words : List (List ℕ)
set_words =
    codes "resubmit-set" ∷ codes "d" ∷ codes "h" ∷ codes "r" ∷ codes "i" ∷ codes "s" ∷ codes "B" ∷ codes "A" ∷ codes "B" ∷ []

-- the actions stand as they are named, also one that is named twice
asked-set : set_asked set_words ≡ record {
  history = codes "h";
  run = codes "r";
  inputs = codes "i";
  schedule = Some (codes "s");
  names = codes "B" ∷ codes "A" ∷ codes "B" ∷ [];
}
asked-set = refl

asked-by_one : asked_of Resubmit five_words ≡ one_asked five_words
asked-by_one = refl

asked-by_set : asked_of ResubmitSet set_words ≡ set_asked set_words
asked-by_set = refl

-- ---- the files, in the order in which they are read

abbrev first_name : Plan → List ℕ
first_name (Says verdict said) = []
first_name (Reads name limit next) = name
first_name (Makes traced d inputs schedule) = []
first_name (Remakes d r names inputs schedule) = []
first_name (Drills n d inputs) = []
first_name (Talks d start inputs) = []

abbrev first_limit : Plan → ℕ
first_limit (Says verdict said) = 0
first_limit (Reads name limit next) = limit
first_limit (Makes traced d inputs schedule) = 0
first_limit (Remakes d r names inputs schedule) = 0
first_limit (Drills n d inputs) = 0
first_limit (Talks d start inputs) = 0

first-definition : first_name (plan Resubmit five_words) ≡ codes "d"
unfolding plan
first-definition = refl

first-definition-set : first_name (plan ResubmitSet set_words) ≡ codes "d"
unfolding plan
first-definition-set = refl

second-history : (d : DefTree) → first_name (accepted Resubmit five_words d) ≡ codes "h"
second-history d = refl

second-history-set : (d : DefTree) → first_name (accepted ResubmitSet set_words d) ≡ codes "h"
second-history-set d = refl

history-limit : (d : DefTree) → first_limit (accepted Resubmit five_words d) ≡ 67108864
history-limit d = refl

-- INPUTS is read whatever HISTORY holds of the run
third-inputs : (d : DefTree) (found : Result RecordTree FindFault)
    → first_name (judged History (codes "history ") (remade_with (one_asked five_words) d) (Ok found)) ≡ codes "i"
third-inputs d found = refl

third-inputs-set : (d : DefTree) (found : Result RecordTree FindFault) → first_name (remade_with (set_asked set_words) d found) ≡ codes "i"
third-inputs-set d found = refl

inputs-limit : (d : DefTree) (found : Result RecordTree FindFault) → first_limit (remade_with (set_asked set_words) d found) ≡ 67108864
inputs-limit d found = refl

-- and so is SCHEDULE
fourth-schedule : (d : DefTree) (found : Result RecordTree FindFault) (inputs : InputsTree)
    → first_name (remade_under (set_asked set_words) d (Some (codes "s")) found inputs) ≡ codes "s"
fourth-schedule d found inputs = refl

schedule-limit : (d : DefTree) (found : Result RecordTree FindFault) (inputs : InputsTree)
    → first_limit (remade_under (set_asked set_words) d (Some (codes "s")) found inputs) ≡ 67108864
schedule-limit d found inputs = refl

-- no schedule is the empty one
fourth-none : (d : DefTree) (r : RecordTree) (inputs : InputsTree)
    → remade_under (one_asked five_words) d (one_asked five_words).schedule (Ok r) inputs ≡ Remakes d r (codes "A" ∷ []) inputs []
fourth-none d r inputs = refl

-- ---- the order of the tests

module _ (asked : AskedTree) (d : DefTree) where
  -- a fault of HISTORY is told before INPUTS is read
  history-told : judged History (codes "history ") (remade_with asked d) (Err (FormFault.Line 1)) ≡ Says History (codes "history Line 1\n")
  unfolding fault_line digits
  history-told = refl

  history-too_long : judged History (codes "history ") (remade_with asked d) (history_form asked.run None)
      ≡ Says History (codes "history too long\n")
  unfolding fault_line
  history-too_long = refl

  -- one of INPUTS before SCHEDULE is read, and before anything of the run
  inputs-told : (found : Result RecordTree FindFault)
      → judged Inputs (codes "inputs ") (remade_under asked d asked.schedule found) (Err FormFault.Moment)
      ≡ Says Inputs (codes "inputs Moment\n")
  unfolding fault_line
  inputs-told found = refl

  -- one of SCHEDULE before anything of the run
  schedule-told : (found : Result RecordTree FindFault) (inputs : InputsTree)
      → judged Inputs (codes "schedule ") (λ numbers. remade asked d inputs numbers found) (schedule_form (Some (codes "0\nx\n")))
      ≡ Says Inputs (codes "schedule Line 2\n")
  unfolding fault_line digits
  schedule-told found inputs = refl

  -- a run that isn't there is told then
  no_run-told : (inputs : InputsTree) (schedule : List ℕ) → remade asked d inputs schedule (Err FindFault.NoRun)
      ≡ Says History (codes "history NoRun\n")
  unfolding find_line
  no_run-told inputs schedule = refl

  twice-told : (inputs : InputsTree) (schedule : List ℕ) → remade asked d inputs schedule (Err (FindFault.Twice 2 14))
      ≡ Says History (codes "history Twice 2 14\n")
  unfolding find_line digits
  twice-told inputs schedule = refl

  -- and one that is there is resubmitted, or refused
  run-taken : (r : RecordTree) (inputs : InputsTree) (schedule : List ℕ) → remade asked d inputs schedule (Ok r)
      ≡ Remakes d r asked.names inputs schedule
  run-taken r inputs schedule = refl

-- ---- the lines of refusals

line-no_action : refusal_line (ResubmitFault.NoAction (codes "Z")) ≡ codes "resubmit NoAction \"Z\"\n"
unfolding refusal_line
line-no_action = refl

line-in_loop : refusal_line (ResubmitFault.InLoop (codes "C") (codes "L")) ≡ codes "resubmit InLoop \"C\" \"L\"\n"
unfolding refusal_line
line-in_loop = refl

line-not_run : refusal_line (ResubmitFault.NotRun (codes "A")) ≡ codes "resubmit NotRun \"A\"\n"
unfolding refusal_line
line-not_run = refl

-- the digest of the record comes first, then that of the definition
line-other_definition : refusal_line (ResubmitFault.OtherDefinition (record { bytes = 0 ∷ 255 ∷ [] }) (record { bytes = 18 ∷ 171 ∷ [] }))
    ≡ codes "resubmit OtherDefinition 00ff 12ab\n"
unfolding refusal_line hex_on_literals digits
line-other_definition = refl

-- an address is printed as its text, the name and the iterations
line-shape : refusal_line (ResubmitFault.Shape (record { name = codes "A"; at = 2 ∷ [] })) ≡ codes "resubmit Shape \"A/2\"\n"
unfolding refusal_line digits
line-shape = refl

line-shape_at_top : refusal_line (ResubmitFault.Shape (record { name = codes "C"; at = [] })) ≡ codes "resubmit Shape \"C\"\n"
unfolding refusal_line
line-shape_at_top = refl

-- ---- what may be said of a resubmission, whether the files tell or not

module _ (held : Held) (d : DefTree) (r : RecordTree) (names : List (List ℕ)) (inputs : InputsTree) (schedule : List ℕ) where
  -- each text that is told of it
  resubmission-told : (text : List ℕ) → TellsResubmission d r names inputs schedule text
      → MaySay held (Remakes d r names inputs schedule) Done text
  resubmission-told text told = inl (refl, told)

  cost-told : MayBeResubmitted d r names → 67108864 < cost (pinned d r inputs (numbers_of d.top names))
      → MaySay held (Remakes d r names inputs schedule) TooLarge (codes "too large\n")
  cost-told may over = inr (ResubmissionFault.TooLarge, too_large may over, (refl, refl))

-- a definition with the Compose A, and a record of it without rows
abbrev one_action : DefTree
one_action = record {
  digest = [];
  parameters = [];
  given = [];
  triggers = [];
  top = action_then (action (codes "A") 0 [] [] (compose data_.null) []) no_actions;
  outputs = [];
}

abbrev log : RecordTree
log = record {
  run = codes "r";
  digest = [];
  trigger = null;
  parameters = [];
  status = RunStatus.Succeeded;
  error = null;
  response = null;
  outputs = null;
  rows = [];
}

module _ (held : Held) (inputs : InputsTree) (schedule : List ℕ) where
  -- an action of no such name is told before one that has not run
  no_action-told : MaySay held (Remakes one_action log (codes "Z" ∷ codes "A" ∷ []) inputs schedule) History
      (codes "resubmit NoAction \"Z\"\n")
  unfolding refusal_line
  no_action-told = inr (ResubmissionFault.Refused (ResubmitFault.NoAction (codes "Z")), refused (named refl), (refl, refl))

  not_run-told : MaySay held (Remakes one_action log (codes "A" ∷ []) inputs schedule) History (codes "resubmit NotRun \"A\"\n")
  unfolding refusal_line
  not_run-told = inr (ResubmissionFault.Refused (ResubmitFault.NotRun (codes "A")), refused (named refl), (refl, refl))
