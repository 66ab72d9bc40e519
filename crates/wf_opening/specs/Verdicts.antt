-- WHAT THE TEST OF AN UNTIL GIVES after an iteration.
use Rattle.std.specs.Prelude.{ℕ, Bool, true, Ok, Err}
use Rattle.wf_val.specs.Arguments.{Answer, wrong_type}
use Rattle.wf_val.specs.ValueTree.{boolean}
use Rattle.wf_val.specs.declared.fault.EvalFault.{EvalFault}
use Rattle.wf_val.specs.declared.function.Fun.{Fun}
use Rattle.wf_template.specs.CondTree.{CondTree}
use Rattle.wf_eval.specs.Told.{Told}
use Rattle.wf_eval.specs.Truth.{truth_of}

-- whether the expression holds, or why it has no Boolean value
pub data VerdictTree : Type 0 where
  met : Bool → VerdictTree
  astray : EvalFault → VerdictTree

abbrev pub met_as : Answer → VerdictTree
met_as (Ok (boolean b)) = met b
met_as (Ok v) = astray (wrong_type Fun.Condition 0)
met_as (Err f) = astray f

-- the test in a look, where n words were drawn before
abbrev pub tested_from : Told → CondTree → ℕ → VerdictTree
tested_from l test n = met_as (truth_of l test n).0

-- whether the test ends the loop: it does where it is met, and where it can't be told
abbrev pub ends : VerdictTree → Bool
ends (met b) = b
ends (astray f) = true
