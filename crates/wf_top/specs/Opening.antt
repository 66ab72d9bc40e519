-- What the tests before a talk lead to, as contracts see it.
use Rattle.std.specs.Prelude.{◌≡◌, ℕ, List, Result, Ok, Err}
use Rattle.wf_answers.specs.InputsSeen.{inputs_tree}
use Rattle.wf_outside.specs.Outside.{Held}
use Rattle.wf_reading.specs.ReadSeen.{def_tree}
use Rattle.wf_top.specs.Plan.{Plan, LeadsTo, MaySay}
use Rattle.wf_top.specs.Served.{Follows}
use Rattle.wf_top.specs.declared.load.Stop.{Stop}
use Rattle.wf_top.specs.declared.session.Opened.{Opened}
use Rattle.wf_trigger.specs.StartsSeen.{start_tree}

-- The plan may say this, or leads to the talk of this.
abbrev pub MayOpen : Held → Plan → Opened → Type 0
MayOpen held plan (Opened.Said said) = MaySay held plan said.verdict said.text.items
MayOpen held plan (Opened.Talk checked start inputs) = LeadsTo held plan (def_tree checked.def) (start_tree start) (inputs_tree inputs)

-- what following a plan before a talk gave
abbrev pub Opens : Held → Plan → List (List ℕ) → List (List ℕ) → Result Opened Stop → Type 0
Opens held plan old new (Ok opened) = (new ≡ old) × MayOpen held plan opened
Opens held plan old new (Err stop) = Follows held plan old new (Err stop)
