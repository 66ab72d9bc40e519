-- What `session` says before its talk: its plan, in the order of its tests.
use Rattle.std.specs.Prelude.{ℕ, List, [], ◌∷◌, ◌++◌, length, Result, Ok, Err, codes, decimal}
use Rattle.wf_answers.specs.Inputs.{InputsTree}
use Rattle.wf_def.specs.DefTree.{DefTree}
use Rattle.wf_files.specs.Form.{definition_form, inputs_form}
use Rattle.wf_told.specs.Records.{starts_of}
use Rattle.wf_top.specs.Limits.{definition_bytes, inputs_bytes}
use Rattle.wf_top.specs.Plan.{Plan, Says, Reads, Talks}
use Rattle.wf_top.specs.Resubmit.{judged}
use Rattle.wf_top.specs.Trigger.{trigger_line}
use Rattle.wf_top.specs.declared.said.Verdict.TheVariants.{Done, Definition, Inputs}
use Rattle.wf_trigger.specs.Starts.{StartTree}
use Rattle.wf_trigger.specs.declared.fault.TriggerFault.{TriggerFault}

-- what is said where no run starts
abbrev pub no_run : List ℕ
no_run = codes "# no run\n"

-- what is said where so many start, and not one alone
unfoldable pub many_runs : ℕ → List ℕ
many_runs count = codes "session ManyRuns " ++ decimal count ++ 10 ∷ []

-- The run that starts alone is talked of.
abbrev pub started : DefTree → InputsTree → Result (List StartTree) TriggerFault → Plan
started d inputs (Err fault) = Says Inputs (trigger_line fault)
started d inputs (Ok []) = Says Done no_run
started d inputs (Ok (start ∷ [])) = Talks d start inputs
started d inputs (Ok (start ∷ next ∷ starts)) = Says Inputs (many_runs (length (start ∷ next ∷ starts)))

-- with the inputs of a file
abbrev pub joined : List ℕ → DefTree → Plan
joined inputs d =
    Reads inputs inputs_bytes (λ file. judged Inputs (codes "inputs ") (λ i. started d i (starts_of d i)) (inputs_form file))

-- of the definition of a file
abbrev pub session : List ℕ → List ℕ → Plan
session definition inputs =
    Reads definition definition_bytes (λ file. judged Definition (codes "definition ") (joined inputs) (definition_form file))
