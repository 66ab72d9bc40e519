-- Worked values: what actions and the section `outputs` go by where each layer has other inputs in every respect, and how runs end.
use Rattle.std.proofs.Common.{◌≡◌, ℕ, List, [], ◌∷◌, Some, true, Ok, Err, refl}
use Rattle.std.specs.Prelude.{bytes_eq, codes, pos}
use Rattle.wf_trigger.specs.AnswerTree.{AnswerTree}
use Rattle.wf_trigger.specs.Inputs.{InputsTree}
use Rattle.wf_trigger.specs.Starts.{StartTree, trigger_value}
use Rattle.wf_val.specs.ValueTree.{null, number, text, object, members, no_members}
use Rattle.wf_val.specs.declared.fault.EvalFault.{EvalFault}
use Rattle.wf_record.specs.FaultText.{fault_text}
use Rattle.wf_trigger.specs.Definition as layered
use Rattle.wf_record.specs.declared.status.RunStatus.{RunStatus}
use Rattle.wf_record.specs.declared.status.Status.TheVariants.{Succeeded, Failed, Skipped, TimedOut, Cancelled}
use Rattle.wf_environment.specs.Environment.{Environment, facts_of, last_facts}
use Rattle.wf_environment.specs.Ending.{ending, outputs_error, run_status}
use Rattle.wf_environment.specs.Statuses.{status_tree}

-- inputs that hand in a run's name, a seed, a moment, a trigger, outputs, a parameter and answers
abbrev handed : List ℕ → List ℕ → ℕ → List AnswerTree → InputsTree
handed run seed moment answers = record {
  run = run;
  seed = seed;
  moment = moment;
  trigger = Some run;
  outputs = number (pos moment);
  parameters = (codes "p", number (pos moment)) ∷ [];
  answers = answers;
}

-- a start of this name and seed, with the same trigger and parameters as any other
abbrev started : List ℕ → List ℕ → StartTree
started run seed = record {
  run = run;
  seed = seed;
  trigger = trigger_value null (number (pos 3));
  parameters = (codes "p", number (pos 7)) ∷ [];
}

module _ (a b c : AnswerTree) where
  -- B was done anew, and then A.
  abbrev twice : Environment
  twice = record {
    start = started (codes "r-1") (codes "s-1");
    inputs = handed (codes "r") (codes "s") 5 (a ∷ []);
    layers =
        record { redone = bytes_eq (codes "B"); inputs = handed (codes "r2") (codes "s2") 6 (b ∷ []) }
        ∷ record { redone = bytes_eq (codes "A"); inputs = handed (codes "r3") (codes "s3") 7 (b ∷ c ∷ []) }
        ∷ [];
  }

  facts-first : facts_of twice (codes "C") ≡ record { run = codes "r-1"; seed = codes "s-1"; moment = 5; answers = a ∷ [] }
  facts-first = refl

  facts-earlier : facts_of twice (codes "B") ≡ record { run = codes "r2"; seed = codes "s2"; moment = 6; answers = b ∷ [] }
  facts-earlier = refl

  facts-later : facts_of twice (codes "A") ≡ record { run = codes "r3"; seed = codes "s3"; moment = 7; answers = b ∷ c ∷ [] }
  facts-later = refl

  last-layer : last_facts twice ≡ record { run = codes "r3"; seed = codes "s3"; moment = 7; answers = b ∷ c ∷ [] }
  last-layer = refl

  last-first : last_facts (record twice { layers = [] }) ≡ record { run = codes "r-1"; seed = codes "s-1"; moment = 5; answers = a ∷ [] }
  last-first = refl

-- ---- how a run ends

ending-fine : ending Succeeded (Ok ((codes "o", number (pos 1)) ∷ []))
    ≡ record { status = RunStatus.Succeeded; error = null; outputs = object (members ((codes "o", number (pos 1)) ∷ [])) }
ending-fine = refl

-- outputs that have values don't mend a graph that Failed
ending-failed : ending Failed (Ok []) ≡ record { status = RunStatus.Failed; error = null; outputs = object no_members }
ending-failed = refl

ending-faulted : ending Succeeded (Err (EvalFault.NoValue (codes "Z"))) ≡ record {
  status = RunStatus.Failed;
  error = object (members ((codes "code", text (codes "InvalidTemplate"))
      ∷ (codes "message", text (fault_text (EvalFault.NoValue (codes "Z")))) ∷ []));
  outputs = null;
}
ending-faulted = refl

ending-both : (ending Failed (Err (EvalFault.NoValue (codes "Z")))).error ≡ outputs_error (EvalFault.NoValue (codes "Z"))
ending-both = refl

-- ---- statuses

of-failed : (run_status Failed ≡ RunStatus.Failed) × (status_tree Failed ≡ layered.Failed)
of-failed = (refl, refl)

of-succeeded : (run_status Succeeded ≡ RunStatus.Succeeded) × (status_tree Succeeded ≡ layered.Succeeded)
of-succeeded = (refl, refl)

of-others : (status_tree Skipped ≡ layered.Skipped) × (status_tree TimedOut ≡ layered.TimedOut)
    × (status_tree Cancelled ≡ layered.Cancelled)
of-others = (refl, refl, refl)
