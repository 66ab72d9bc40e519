-- WHAT A CONTAINER FINDS AS IT OPENS (Workflow Definition Language, "Control workflow action types").
use Rattle.std.specs.Prelude.{ℕ, suc, Bool, true, false, List, length, nat_le, Ok, Err, if◌then◌else◌}
use Rattle.std.specs.Ordering.{is_eq}
use Rattle.wf_val.specs.Arguments.{Answer, wrong_type}
use Rattle.wf_val.specs.ValueOrder.{order}
use Rattle.wf_val.specs.ValueTree.{ValueTree, boolean, number, text, list, items}
use Rattle.wf_val.specs.declared.fault.EvalFault.{EvalFault}
use Rattle.wf_val.specs.declared.function.Fun.{Fun}
use Rattle.wf_def.specs.ActionTree.{KindTree, branch, switch, switch_else, foreach, CaseTrees, no_cases, case_then}
use Rattle.wf_eval.specs.Told.{Told}
use Rattle.wf_eval.specs.TemplateValue.{template_value}
use Rattle.wf_eval.specs.TreeValue.{tree_value}
use Rattle.wf_eval.specs.Truth.{truth_of}

pub data DecisionTree : Type 0 where
  -- a Scope and an Until decide nothing
  nothing : DecisionTree
  -- whether the condition of an If holds
  held : Bool → DecisionTree
  -- the value of a Switch, and the number of the branch that it means: of its cases in the order of their names, counted from 1, and behind
  -- them of the default, or of no graph where there is none
  chosen : (value : ValueTree) (branch : ℕ) → DecisionTree
  -- the items of a Foreach
  each : List ValueTree → DecisionTree
  -- a list that is too long; and a condition, an expression or a list that has no value, or none of the kind that is asked
  too_many : DecisionTree
  faulty : EvalFault → DecisionTree

-- the branch of a Switch, where the first of these cases has number n: of the first that is the same value, else the one behind them all
abbrev pub branch_from : ℕ → CaseTrees → ValueTree → ℕ
branch_from n no_cases v = n
branch_from n (case_then name value graph rest) v = if is_eq (order value v) then n else branch_from (suc n) rest v

-- a condition has to give a Boolean
abbrev pub held_as : Answer → DecisionTree
held_as (Ok (boolean b)) = held b
held_as (Ok v) = faulty (wrong_type Fun.Condition 0)
held_as (Err f) = faulty f

-- the expression of a Switch has to give a text or a number
abbrev pub chosen_as : CaseTrees → Answer → DecisionTree
chosen_as cases (Ok (text s)) = chosen (text s) (branch_from 1 cases (text s))
chosen_as cases (Ok (number n)) = chosen (number n) (branch_from 1 cases (number n))
chosen_as cases (Ok v) = faulty (wrong_type Fun.Switch 0)
chosen_as cases (Err f) = faulty f

-- the list of a Foreach has to be one, of 100,000 items at most
abbrev pub each_as : Answer → DecisionTree
each_as (Ok (list ts)) = if nat_le (length (items ts)) 100000 then each (items ts) else too_many
each_as (Ok v) = faulty (wrong_type Fun.Foreach 0)
each_as (Err f) = faulty f

-- what a container decides in a look, where n words were drawn before
abbrev pub decided_from : Told → KindTree → ℕ → DecisionTree
decided_from l (branch test yes' no') n = held_as (truth_of l test n).0
decided_from l (switch on cases) n = chosen_as cases (template_value l on n).0
decided_from l (switch_else on cases default) n = chosen_as cases (template_value l on n).0
decided_from l (foreach items repetitions graph) n = each_as (tree_value l items n).0
decided_from l kind n = nothing

-- and where none were, as it is where a look is made for this opening alone
abbrev pub decided : Told → KindTree → DecisionTree
decided l kind = decided_from l kind 0

-- which branch is meant, counted from 1: of an If the first where its condition holds, else the second; 0 where none is
abbrev pub taken : DecisionTree → ℕ
taken (held true) = 1
taken (held false) = 2
taken (chosen v n) = n
taken decision = 0

-- how many iterations of a Foreach are meant
abbrev pub items_of : DecisionTree → ℕ
items_of (each ts) = length ts
items_of decision = 0
