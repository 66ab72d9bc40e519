-- What the outcome of `session` says, where it comes to no talk.
use Rattle.std.proofs.Common.{◌≡◌, ◌⊎◌, ◌≤◌, ℕ, List, [], ◌∷◌, length, Option, Some, Result, Ok, Err, inl, inr, refl, ap, arith}
use Rattle.std.specs.Prelude.{codes}
use Rattle.std.specs.Io.KnownBytes.{Appends}
use Rattle.wf_answers.specs.Inputs.{InputsTree}
use Rattle.wf_def.specs.DefTree.{DefTree}
use Rattle.wf_files.specs.Fault.{fault_line}
use Rattle.wf_files.specs.Form.{inputs_form}
use Rattle.wf_files.specs.declared.fault.FormFault.{FormFault}
use Rattle.wf_outside.specs.Outside.{Held}
use Rattle.wf_told.specs.Records.{starts_of}
use Rattle.wf_top.specs.Conversed.{IsJoined, NoneStarts, RefusesTalk}
use Rattle.wf_top.specs.Limits.{inputs_bytes}
use Rattle.wf_top.specs.Plan.{MayGive, MaySay}
use Rattle.wf_top.specs.Ran.{GivesDefinition, GivesInputs}
use Rattle.wf_top.specs.Resubmit.{judged}
use Rattle.wf_top.specs.Served.{number}
use Rattle.wf_top.specs.Session.{joined, many_runs, no_run, started}
use Rattle.wf_top.specs.Trigger.{trigger_line}
use Rattle.wf_top.specs.Words.{command_of, word}
use Rattle.wf_top.specs.declared.said.Verdict.{Verdict}
use Rattle.wf_top.specs.declared.said.Verdict.TheVariants.{Inputs}
use Rattle.wf_top.specs.declared.words.Command.TheVariants.{Session}
use Rattle.wf_trigger.specs.Starts.{StartTree}
use Rattle.wf_trigger.specs.declared.fault.TriggerFault.{TriggerFault}

-- What it may say of an accepted definition: what its inputs were, the status and the text.
pub data SessionOutcome (held : Held) (words : List (List ℕ)) (status : ℕ) (text : List ℕ) : Type 0 where
  no_inputs : (d : DefTree) (fault : FormFault) → GivesDefinition held words Session (Ok d) → GivesInputs held words (Err fault) →
      status ≡ 6 → text ≡ fault_line (codes "inputs ") fault → SessionOutcome held words status text
  no_start : (d : DefTree) (inputs : InputsTree) (fault : TriggerFault) → IsJoined held words d inputs → starts_of d inputs ≡ Err fault →
      status ≡ 6 → text ≡ trigger_line fault → SessionOutcome held words status text
  none : (d : DefTree) (inputs : InputsTree) → IsJoined held words d inputs → starts_of d inputs ≡ Ok [] → status ≡ 0 → text ≡ no_run →
      SessionOutcome held words status text
  several : (d : DefTree) (inputs : InputsTree) (starts : List StartTree) → IsJoined held words d inputs → starts_of d inputs ≡ Ok starts →
      2 ≤ length starts → status ≡ 6 → text ≡ many_runs (length starts) → SessionOutcome held words status text

-- ---- what the plan comes to

module _ (held : Held) (words : List (List ℕ)) (verdict : Verdict) (text : List ℕ) (d : DefTree)
    (given : GivesDefinition held words Session (Ok d)) where
  abbrev Ends : Type 0
  Ends = SessionOutcome held words (number verdict) text

  after_starts : (inputs : InputsTree) → IsJoined held words d inputs → (found : Result (List StartTree) TriggerFault) →
      starts_of d inputs ≡ found → MaySay held (started d inputs found) verdict text → Ends
  after_starts inputs both (Err fault) is saying = no_start d inputs fault both is (ap number saying.0) saying.1
  after_starts inputs both (Ok []) is saying = none d inputs both is (ap number saying.0) saying.1
  after_starts inputs both (Ok (start ∷ [])) is saying = absurd saying
  after_starts inputs both (Ok (start ∷ next ∷ starts)) is saying =
      several d inputs (start ∷ next ∷ starts) both is (omega arith) (ap number saying.0) saying.1

  after_inputs : (file : Option (List ℕ)) → MayGive held (word words 2) inputs_bytes file → (form : Result InputsTree FormFault) →
      inputs_form file ≡ form → MaySay held (judged Inputs (codes "inputs ") (λ i. started d i (starts_of d i)) form) verdict text → Ends
  after_inputs file may (Ok inputs) is saying =
      after_starts inputs (record { definition_given = given; inputs_given = (file, may, is) }) (starts_of d inputs) refl saying
  after_inputs file may (Err fault) is saying = no_inputs d fault given (file, may, is) (ap number saying.0) saying.1

  pub after_joined : MaySay held (joined (word words 2) d) verdict text → Ends
  after_joined saying = after_inputs saying.0 saying.1 (inputs_form saying.0) refl saying.2

-- ---- what it says of its status

module _ (held : Held) (words : List (List ℕ)) (before after : Option (List ℕ)) (text : List ℕ) (status : ℕ) where
  pub session_names : SessionOutcome held words status text → command_of words ≡ Some Session
  session_names (no_inputs d fault given handed is said) = given.0
  session_names (no_start d inputs fault both bad is said) = both.definition_given.0
  session_names (none d inputs both empty is said) = both.definition_given.0
  session_names (several d inputs starts both are many is said) = both.definition_given.0

  -- no other status
  pub session_status : SessionOutcome held words status text → (status ≡ 0) ⊎ (status ≡ 6)
  session_status (no_inputs d fault given handed is said) = inr is
  session_status (no_start d inputs fault both bad is said) = inr is
  session_status (none d inputs both empty is said) = inl is
  session_status (several d inputs starts both are many is said) = inr is

  module _ (written : Appends before after text) where
    pub session_done : status ≡ 0 → SessionOutcome held words status text → NoneStarts held words before after
    session_done zero (no_inputs d fault given handed is said) = absurd (omega (arith, zero, is))
    session_done zero (no_start d inputs fault both bad is said) = absurd (omega (arith, zero, is))
    session_done zero (none d inputs both empty is said) =
        record { definition = d; inputs = inputs; given = both; none = empty; written = rw said at written }
    session_done zero (several d inputs starts both are many is said) = absurd (omega (arith, zero, is))

    pub session_six : status ≡ 6 → SessionOutcome held words status text → RefusesTalk held words before after
    session_six six (no_inputs d fault given handed is said) =
        inl (record { definition = d; fault = fault; definition_given = given; inputs_given = handed; written = rw said at written })
    session_six six (no_start d inputs fault both bad is said) =
        inr (inl (record { definition = d; inputs = inputs; fault = fault; given = both; refused = bad; written = rw said at written }))
    session_six six (none d inputs both empty is said) = absurd (omega (arith, six, is))
    session_six six (several d inputs starts both are many is said) = inr (inr (record {
      definition = d;
      inputs = inputs;
      starts = starts;
      given = both;
      started = are;
      several = many;
      written = rw said at written;
    }))
