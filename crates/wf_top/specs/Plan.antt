-- A plan: what a command says, once the files that it asks for have been read in turn.
use Rattle.std.specs.Prelude.{◌≡◌, ◌⊎◌, ℕ, ◌≤◌, Bool, List, length, Option, None, Some, IfSome, Contains, if◌then◌else◌, nat_le}
use Rattle.std.specs.Option.{option_map}
use Rattle.wf_answers.specs.Inputs.{InputsTree}
use Rattle.wf_def.specs.DefTree.{DefTree}
use Rattle.wf_outside.specs.Outside.{Held}
use Rattle.wf_record.specs.Record.{RecordTree}
use Rattle.wf_top.specs.Drilling.{MayTellDrill}
use Rattle.wf_top.specs.Told.{MayTell, MayTellAgain}
use Rattle.wf_trigger.specs.Starts.{StartTree}
use Rattle.wf_top.specs.declared.said.Verdict.{Verdict}

-- Either it ends with a verdict and a whole text; or it reads a file of at most so many bytes, and goes on with them,
-- or with None where the file is longer; or it makes the runs of a definition that inputs start, each under the same
-- schedule, and ends with what is told of them, with the events of each or without; or it makes the resubmission of a record from the
-- actions of these names, with new inputs and a schedule, and ends with what is told of it; or it makes the run of the drill of a size,
-- under each of its schedules, and ends with what is told of that; or it talks of the run of a definition that starts so, with inputs, and
-- what is said then rests on what is answered.
pub data Plan : Type 0 where
  Says : Verdict → List ℕ → Plan
  Reads : List ℕ → ℕ → (Option (List ℕ) → Plan) → Plan
  Makes : Bool → DefTree → InputsTree → List ℕ → Plan
  Remakes : DefTree → RecordTree → List (List ℕ) → InputsTree → List ℕ → Plan
  Drills : ℕ → DefTree → InputsTree → Plan
  Talks : DefTree → StartTree → InputsTree → Plan

-- a file's bytes, or None where there are more than limit
abbrev pub within : ℕ → List ℕ → Option (List ℕ)
within limit bytes = if nat_le (length bytes) limit then Some bytes else None

-- What a read of a name may give: where the files tell, what they hold, else any bytes within the limit.
abbrev pub MayGive : Held → List ℕ → ℕ → Option (List ℕ) → Type 0
MayGive None name limit file = IfSome file (λ bytes. length bytes ≤ limit)
MayGive (Some bytes_of) name limit file = option_map (within limit) (bytes_of name) ≡ Some file

-- the plan ends with this verdict and this text
abbrev pub MaySay : Held → Plan → Verdict → List ℕ → Type 0
MaySay held (Says v t) verdict text = (verdict ≡ v) × (text ≡ t)
MaySay held (Reads name limit next) verdict text =
    (file : Option (List ℕ)) × MayGive held name limit file × MaySay held (next file) verdict text
MaySay held (Makes traced d inputs schedule) verdict text = MayTell traced d inputs schedule verdict text
MaySay held (Remakes d r names inputs schedule) verdict text = MayTellAgain d r names inputs schedule verdict text
MaySay held (Drills n d inputs) verdict text = MayTellDrill n d inputs verdict text
MaySay held (Talks d start inputs) verdict text = ⊥

-- The plan comes to the reading of this name: what is tested before it has passed.
abbrev pub ComesTo : Held → Plan → List ℕ → Type 0
ComesTo held (Says v t) wanted = ⊥
ComesTo held (Reads name limit next) wanted =
    (wanted ≡ name) ⊎ ((file : Option (List ℕ)) × MayGive held name limit file × ComesTo held (next file) wanted)
ComesTo held (Makes traced d inputs schedule) wanted = ⊥
ComesTo held (Remakes d r names inputs schedule) wanted = ⊥
ComesTo held (Drills n d inputs) wanted = ⊥
ComesTo held (Talks d start inputs) wanted = ⊥

-- each file that the plan may ask for is named by one of these words
abbrev pub AsksAmong : List (List ℕ) → Plan → Type 0
AsksAmong words (Says verdict text) = Unit {0}
AsksAmong words (Reads name limit next) = Contains words name × ((file : Option (List ℕ)) → AsksAmong words (next file))
AsksAmong words (Makes traced d inputs schedule) = Unit {0}
AsksAmong words (Remakes d r names inputs schedule) = Unit {0}
AsksAmong words (Drills n d inputs) = Unit {0}
AsksAmong words (Talks d start inputs) = Unit {0}

-- The plan leads to the talk of this definition, this start and these inputs: what is tested before it has passed.
abbrev pub LeadsTo : Held → Plan → DefTree → StartTree → InputsTree → Type 0
LeadsTo held (Says v t) d start inputs = ⊥
LeadsTo held (Reads name limit next) d start inputs =
    (file : Option (List ℕ)) × MayGive held name limit file × LeadsTo held (next file) d start inputs
LeadsTo held (Makes traced d' inputs' schedule) d start inputs = ⊥
LeadsTo held (Remakes d' r names inputs' schedule) d start inputs = ⊥
LeadsTo held (Drills n d' inputs') d start inputs = ⊥
LeadsTo held (Talks d' start' inputs') d start inputs = (d' ≡ d) × (start' ≡ start) × (inputs' ≡ inputs)
