-- How a call ends, and what it wrote.
use Rattle.std.specs.Prelude.{◌≡◌, ◌⊎◌, ℕ, List, [], ◌∷◌, ◌++◌, Option, None, Some, Result, Ok, Err, codes}
use Rattle.std.specs.Io.KnownBytes.{Appends}
use Rattle.wf_outside.specs.Outside.{Held}
use Rattle.wf_top.specs.Plan.{Plan, MaySay, ComesTo}
use Rattle.wf_top.specs.Commands.{plan_of}
use Rattle.wf_json.specs.Json.{string}
use Rattle.wf_talk.specs.Written.{Writes}
use Rattle.wf_top.specs.declared.said.Verdict.{Verdict}
use Rattle.wf_top.specs.declared.said.Verdict.TheVariants.{Done, Definition, History, Inputs, TooLarge}
use Rattle.wf_top.specs.declared.said.Said.{Said}
use Rattle.wf_top.specs.declared.load.Stop.{Stop}
use Rattle.wf_top.specs.declared.load.Stop.TheVariants.{CannotRead, Memory}

-- the number that the program ends with
abbrev pub number : Verdict → ℕ
number Done = 0
number Definition = 1
number Inputs = 6
number History = 7
number TooLarge = 8

abbrev pub usage : List ℕ
usage =
    codes "usage: wflow check DEF | run DEF INPUTS [SCHEDULE] | trace DEF INPUTS SCHEDULE | resubmit DEF HISTORY RUN ACTION INPUTS [SCHEDULE] | resubmit-set DEF HISTORY RUN INPUTS SCHEDULE ACTION... | list HISTORY | drill N | session DEF INPUTS | fires DEF TRIGGER FROM N\n"

-- the line of a file that couldn't be read
abbrev pub cannot_read : List ℕ → List ℕ
cannot_read name = codes "cannot read " ++ string name ++ 10 ∷ []

abbrev pub out_of_memory : List ℕ
out_of_memory = codes "out of memory\n"

-- How a call ends: the words are no command, the command speaks, a file of this name couldn't be read, or
-- there was no memory.
pub data Outcome : Type 0 where
  Misused : Outcome
  Speaks : Verdict → List ℕ → Outcome
  Unread : List ℕ → Outcome
  Spent : Outcome

abbrev pub status_of : Outcome → ℕ
status_of Misused = 2
status_of (Speaks status text) = number status
status_of (Unread name) = 3
status_of Spent = 5

abbrev pub text_of : Outcome → List ℕ
text_of Misused = usage
text_of (Speaks status text) = text
text_of (Unread name) = cannot_read name
text_of Spent = out_of_memory

-- The list of failed names grew by one, whose turn had come.
abbrev pub GrewBy : Held → Plan → List (List ℕ) → List (List ℕ) → List ℕ → Type 0
GrewBy held plan old new name = ComesTo held plan name × (new ≡ old ++ name ∷ [])

-- The plan comes to this outcome, and does this to the list of failed names.
abbrev pub Reaches : Held → Plan → List (List ℕ) → List (List ℕ) → Outcome → Type 0
Reaches held plan old new Misused = ⊥
Reaches held plan old new (Speaks status text) = (new ≡ old) × MaySay held plan status text
Reaches held plan old new (Unread name) = GrewBy held plan old new name
Reaches held plan old new Spent = (new ≡ old) ⊎ ((name : List ℕ) × GrewBy held plan old new name)

-- The words come to this outcome. None is the plan of words that are no command.
abbrev pub Comes : Held → Option Plan → List (List ℕ) → List (List ℕ) → Outcome → Type 0
Comes held None old new e = (e ≡ Misused) × (new ≡ old)
Comes held (Some plan) old new e = Reaches held plan old new e

-- what following a plan gave
abbrev pub outcome_of : Result Said Stop → Outcome
outcome_of (Ok said) = Speaks said.verdict said.text.items
outcome_of (Err (CannotRead name)) = Unread name
outcome_of (Err Memory) = Spent

abbrev pub Follows : Held → Plan → List (List ℕ) → List (List ℕ) → Result Said Stop → Type 0
Follows held plan old new result = Reaches held plan old new (outcome_of result)

-- The whole of a call: its words came to an outcome, whose text it wrote.
pub record Serves (held : Held) (plan : Option Plan) (old new : List (List ℕ)) (before after : Option (List ℕ)) (result : ℕ) : Type 0 where
  pub outcome : Outcome
  pub comes : Comes held plan old new outcome
  pub writes : Writes before after (status_of outcome) (text_of outcome) result

-- A plan says this status and this whole text over files that tell, where all that it asks for are there. None is the
-- plan of words that are no command.
abbrev pub PlanSays : (List ℕ → Option (List ℕ)) → Option Plan → ℕ → List ℕ → Type 0
PlanSays bytes_of None status text = (status ≡ 2) × (text ≡ usage)
PlanSays bytes_of (Some plan) status text = (verdict : Verdict) × (status ≡ number verdict) × MaySay (Some bytes_of) plan verdict text

-- The words say this status and this whole text over files that tell.
abbrev pub Say : (List ℕ → Option (List ℕ)) → List (List ℕ) → ℕ → List ℕ → Type 0
Say bytes_of words status text = PlanSays bytes_of (plan_of words) status text

-- A status and a text that are said were answered and written, all of it; or memory ran out.
abbrev pub IsSaid : (ℕ → List ℕ → Type 0) → Option (List ℕ) → Option (List ℕ) → ℕ → Type 0
IsSaid said before after result =
    ((text : List ℕ) × said result text × Appends before after text) ⊎ ((result ≡ 5) × Appends before after out_of_memory)

-- The read of this name failed, and its turn had come.
abbrev pub FailedAt : Held → Option Plan → List (List ℕ) → List (List ℕ) → List ℕ → Type 0
FailedAt held None old new name = ⊥
FailedAt held (Some plan) old new name = GrewBy held plan old new name
