-- The definitions of `session` at worked values.
use Rattle.std.proofs.Common.{◌≡◌, List, ℕ, [], ◌∷◌, None, Some, Ok, Err, refl}
use Rattle.std.specs.Prelude.{codes}
use Rattle.std.specs.Fmt.{digits}
use Rattle.wf_answers.specs.Inputs.{InputsTree}
use Rattle.wf_def.specs.DefTree.{DefTree}
use Rattle.wf_files.specs.Fault.{fault_line}
use Rattle.wf_files.specs.Form.{definition_form, inputs_form}
use Rattle.wf_files.specs.declared.fault.FormFault.{FormFault}
use Rattle.wf_told.specs.Records.{starts_of}
use Rattle.wf_top.specs.Commands.{plan}
use Rattle.wf_top.specs.Plan.{Says, Reads, Talks}
use Rattle.wf_top.specs.Resubmit.{judged}
use Rattle.wf_top.specs.Session.{joined, many_runs, started}
use Rattle.wf_top.specs.Trigger.{trigger_line}
use Rattle.wf_top.specs.Words.{command_of}
use Rattle.wf_top.specs.declared.said.Verdict.TheVariants.{Done, Definition, Inputs}
use Rattle.wf_top.specs.declared.words.Command.TheVariants.{Session}
use Rattle.wf_trigger.specs.Starts.{StartTree}
use Rattle.wf_trigger.specs.declared.fault.TriggerFault.{TriggerFault}

-- ---- the words

abbrev words : List (List ℕ)
words = codes "session" ∷ codes "d" ∷ codes "i" ∷ []

command-session : command_of words ≡ Some Session
command-session = refl

command-no_inputs : command_of (codes "session" ∷ codes "d" ∷ []) ≡ None
command-no_inputs = refl

command-one_more : command_of (codes "session" ∷ codes "d" ∷ codes "i" ∷ codes "s" ∷ []) ≡ None
command-one_more = refl

-- ---- the files, in the order in which they are read

definition-first : plan Session words
    ≡ Reads (codes "d") 4194304 (λ file. judged Definition (codes "definition ") (joined (codes "i")) (definition_form file))
unfolding plan
definition-first = refl

module _ (d : DefTree) (inputs : InputsTree) (start next : StartTree) where
  inputs-second : joined (codes "i") d
      ≡ Reads (codes "i") 67108864 (λ file. judged Inputs (codes "inputs ") (λ i. started d i (starts_of d i)) (inputs_form file))
  inputs-second = refl

  inputs-told : judged Inputs (codes "inputs ") (λ i. started d i (starts_of d i)) (Err FormFault.Moment)
      ≡ Says Inputs (codes "inputs Moment\n")
  unfolding fault_line
  inputs-told = refl

  -- ---- by how many runs start

  start-none : started d inputs (Ok []) ≡ Says Done (codes "# no run\n")
  start-none = refl

  start-alone : started d inputs (Ok (start ∷ [])) ≡ Talks d start inputs
  start-alone = refl

  start-two : started d inputs (Ok (start ∷ next ∷ [])) ≡ Says Inputs (codes "session ManyRuns 2\n")
  unfolding many_runs digits
  start-two = refl

  start-three : started d inputs (Ok (start ∷ next ∷ start ∷ [])) ≡ Says Inputs (codes "session ManyRuns 3\n")
  unfolding many_runs digits
  start-three = refl

  start-refused : started d inputs (Err TriggerFault.NoTrigger) ≡ Says Inputs (codes "trigger NoTrigger\n")
  unfolding trigger_line
  start-refused = refl

many-most : many_runs 100000 ≡ codes "session ManyRuns 100000\n"
unfolding many_runs digits
many-most = refl
