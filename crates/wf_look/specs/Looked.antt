-- WHAT THE FUNCTIONS GIVE that ask the look (Workflow Definition Language, reference of the functions in expressions,
-- "Workflow functions").
use Rattle.std.specs.Prelude.{ℕ, ◌-◌, ◌^◌, min, pos, List, [], ◌∷◌, Option, Some, None, option_map, Ok, Err, codes, map, slice_get}
use Rattle.wf_val.specs.Arguments.{Answer, wrong_type}
use Rattle.wf_val.specs.Function.{function_name}
use Rattle.wf_val.specs.Get as look_up
use Rattle.wf_val.specs.ValueTree.{ValueTree, null, number, text, list, object, trees, items, members}
use Rattle.wf_val.specs.declared.fault.EvalFault.{EvalFault}
use Rattle.wf_val.specs.declared.function.Fun.{Fun}
use Rattle.wf_look.specs.Told.{Told}

abbrev pub or_null : Option ValueTree → ValueTree
or_null (Some t) = t
or_null None = null

-- what a look has under a name
abbrev pub or_no_value : List ℕ → Option ValueTree → Answer
or_no_value name (Some t) = Ok t
or_no_value name None = Err (EvalFault.NoValue name)

-- the outputs of one view, and the body of these; null where there are none
abbrev pub outputs_in : ValueTree → ValueTree
outputs_in t = or_null (look_up.get (codes "outputs") t)

abbrev pub body_in : ValueTree → ValueTree
body_in t = or_null (look_up.get (codes "body") (outputs_in t))

-- the part of a view that a function gives
abbrev pub part_in : Fun → ValueTree → ValueTree
part_in Fun.Outputs t = outputs_in t
part_in f t = body_in t

-- of a view that is a list, one of each
abbrev pub over_view : (ValueTree → ValueTree) → ValueTree → ValueTree
over_view part (list ts) = list (trees (map part (items ts)))
over_view part t = part t

-- an index is cut to the greatest number
abbrev pub as_number : ℕ → ValueTree
as_number n = number (pos (min n (2 ^ 63 - 1)))

-- what a naming function gives under a name; letter case counts
abbrev pub named_row : Told → Fun → List ℕ → Answer
named_row l Fun.Actions k = or_no_value k (l.view k)
named_row l Fun.Outputs k = or_no_value k (option_map (over_view (part_in Fun.Outputs)) (l.view k))
named_row l Fun.Body k = or_no_value k (option_map (over_view (part_in Fun.Body)) (l.view k))
named_row l Fun.Result k = or_no_value k (l.result k)
named_row l Fun.Items k = or_no_value k (l.item_of k)
named_row l Fun.IterationIndexes k = or_no_value k (option_map as_number (l.index_of k))
named_row l Fun.Parameters k = or_no_value k (l.parameter k)
named_row l Fun.Variables k = or_no_value k (l.variable k)
named_row l f k = Err (EvalFault.NoValue k)

-- the same by the literal that it has as its first argument, where that is a text
abbrev pub named_by : Told → Fun → Option (List ℕ) → Answer
named_by l f (Some k) = named_row l f k
named_by l f None = Err (wrong_type f 0)

abbrev pub workflow_value : List ℕ → ValueTree
workflow_value run = object (members (
    (codes "name", text (codes "workflow")) ∷ (codes "run", object (members ((codes "name", text run) ∷ []))) ∷ []))

-- what a function of the look alone gives; where there is nothing its own name is in the fault, however it was written
abbrev pub told_row : Told → Fun → Answer
told_row l Fun.Action = or_no_value (function_name Fun.Action) l.own
told_row l Fun.Item = or_no_value (function_name Fun.Item) (slice_get l.items 0)
told_row l Fun.Trigger = Ok l.trigger
told_row l Fun.TriggerOutputs = Ok (outputs_in l.trigger)
told_row l Fun.TriggerBody = Ok (body_in l.trigger)
told_row l Fun.Workflow = Ok (workflow_value l.run_name)
told_row l f = Err (EvalFault.NoValue (function_name f))
