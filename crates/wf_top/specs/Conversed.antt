-- How `session` ends, in terms of what its files hold.
use Rattle.std.specs.Prelude.{◌≡◌, ◌⊎◌, ℕ, ◌<◌, ◌≤◌, List, [], ◌∷◌, length, Option, Ok, Err, codes}
use Rattle.std.specs.Io.KnownBytes.{Appends}
use Rattle.wf_answers.specs.Inputs.{InputsTree}
use Rattle.wf_def.specs.DefTree.{DefTree}
use Rattle.wf_files.specs.Fault.{fault_line}
use Rattle.wf_files.specs.Form.{inputs_form}
use Rattle.wf_files.specs.declared.fault.FormFault.{FormFault}
use Rattle.wf_outside.specs.Outside.{Held, Rose}
use Rattle.wf_stands.specs.Stands.{Stands}
use Rattle.wf_talk.specs.Talks.{Talks}
use Rattle.wf_talk.specs.Written.{Writes}
use Rattle.wf_told.specs.Records.{starts_of}
use Rattle.wf_top.specs.Commands.{plan_of}
use Rattle.wf_top.specs.Limits.{inputs_bytes}
use Rattle.wf_top.specs.Ran.{GivesDefinition, GivesInputs, Holds, HoldsDefinition}
use Rattle.wf_top.specs.Served.{Serves, out_of_memory}
use Rattle.wf_top.specs.Session.{many_runs, no_run}
use Rattle.wf_top.specs.Trigger.{trigger_line}
use Rattle.wf_top.specs.Words.{word}
use Rattle.wf_top.specs.declared.words.Command.TheVariants.{Session}
use Rattle.wf_trigger.specs.Starts.{StartTree}
use Rattle.wf_trigger.specs.declared.fault.TriggerFault.{TriggerFault}

-- The words are `session`, DEF gave an accepted definition, and INPUTS gave inputs.
pub record IsJoined (held : Held) (words : List (List ℕ)) (definition : DefTree) (inputs : InputsTree) : Type 0 where
  pub definition_given : GivesDefinition held words Session (Ok definition)
  pub inputs_given : GivesInputs held words (Ok inputs)

-- THE TALK WAS HELD of the run that the inputs start alone: the source gave, and the sink took, what it says of where that run stands.
pub record Talked (held : Held) (words : List (List ℕ)) (left left' before after : Option (List ℕ)) (result : ℕ) : Type 0 where
  pub definition : DefTree
  pub inputs : InputsTree
  pub start : StartTree
  pub given : IsJoined held words definition inputs
  pub alone : starts_of definition inputs ≡ Ok (start ∷ [])
  pub talks : Talks (Stands definition start) inputs left left' before after result

module _ (held : Held) (words : List (List ℕ)) (before after : Option (List ℕ)) where
  -- DEF gave a definition and INPUTS inputs that start no run, and that was said.
  pub record NoneStarts : Type 0 where
    pub definition : DefTree
    pub inputs : InputsTree
    pub given : IsJoined held words definition inputs
    pub none : starts_of definition inputs ≡ Ok []
    pub written : Appends before after no_run

  -- They start several, and their number was taken.
  pub record SeveralStart : Type 0 where
    pub definition : DefTree
    pub inputs : InputsTree
    pub starts : List StartTree
    pub given : IsJoined held words definition inputs
    pub started : starts_of definition inputs ≡ Ok starts
    pub several : 2 ≤ length starts
    pub written : Appends before after (many_runs (length starts))

  -- None could start, for a fault of the trigger, and it was taken.
  pub record NoneCanStart : Type 0 where
    pub definition : DefTree
    pub inputs : InputsTree
    pub fault : TriggerFault
    pub given : IsJoined held words definition inputs
    pub refused : starts_of definition inputs ≡ Err fault
    pub written : Appends before after (trigger_line fault)

  -- DEF gave a definition and INPUTS no inputs, and the fault of INPUTS was taken.
  pub record RefusedBeforeTalk : Type 0 where
    pub definition : DefTree
    pub fault : FormFault
    pub definition_given : GivesDefinition held words Session (Ok definition)
    pub inputs_given : GivesInputs held words (Err fault)
    pub written : Appends before after (fault_line (codes "inputs ") fault)

  -- why no talk was begun
  abbrev pub RefusesTalk : Type 0
  RefusesTalk = RefusedBeforeTalk ⊎ (NoneCanStart ⊎ SeveralStart)

-- The words are `session`, and the files hold a definition and inputs by which these runs start.
pub record HoldsStarts (bytes_of : List ℕ → Option (List ℕ)) (words : List (List ℕ)) (d : DefTree) (inputs : InputsTree)
    (starts : List StartTree) : Type 0 where
  pub definition_held : HoldsDefinition bytes_of words Session d
  pub inputs_held : Holds bytes_of (word words 2) inputs_bytes inputs_form inputs
  pub started : starts_of d inputs ≡ Ok starts

-- They hold what a talk begins with: one run starts.
abbrev pub HoldsTalk : (List ℕ → Option (List ℕ)) → List (List ℕ) → Type 0
HoldsTalk bytes_of words = (d : DefTree) × (inputs : InputsTree) × (start : StartTree) × HoldsStarts bytes_of words d inputs (start ∷ [])

-- The line of a refusal was taken as a whole, with its status; or memory ran out.
abbrev pub IsRefusedWhole : Option (List ℕ) → Option (List ℕ) → List ℕ → ℕ → Type 0
IsRefusedWhole before after line result =
    ((result ≡ 6) × Appends before after line) ⊎ ((result ≡ 5) × Appends before after out_of_memory)

-- The talk of this definition, start and inputs was held; or memory ran out before it, and nothing was taken of the source.
abbrev pub IsTalkedWhole : DefTree → StartTree → InputsTree → Option (List ℕ) → Option (List ℕ) → Option (List ℕ) → Option (List ℕ) → ℕ
    → Type 0
IsTalkedWhole d start inputs left left' before after result =
    Talks (Stands d start) inputs left left' before after result ⊎ (Writes before after 5 out_of_memory result × (left' ≡ left))

-- A talk was held, and no file failed; 3 came where the source failed, and wherever it failed 3, 4 or 5.
pub record Conversed (held : Held) (words : List (List ℕ)) (old new : List (List ℕ)) (faults faults' : ℕ)
    (left left' before after : Option (List ℕ)) (result : ℕ) : Type 0 where
  pub talked : Talked held words left left' before after result
  pub same : new ≡ old
  pub three : result ≡ 3 → Rose faults faults'
  pub failed : faults < faults' → (result ≡ 3) ⊎ ((result ≡ 4) ⊎ (result ≡ 5))

-- HOW A CALL ENDS: its words came to an outcome, whose text it wrote, and the source is as it was; or a talk was held.
abbrev pub IsServed : Held → List (List ℕ) → List (List ℕ) → List (List ℕ) → ℕ → ℕ → Option (List ℕ) → Option (List ℕ) → Option (List ℕ)
    → Option (List ℕ) → ℕ → Type 0
IsServed held words old new faults faults' left left' before after result =
    (Serves held (plan_of words) old new before after result × (faults' ≡ faults) × (left' ≡ left))
    ⊎ Conversed held words old new faults faults' left left' before after result
