-- The items that a trigger's outputs are split into, and whether its conditions hold. `value` is what a template comes to.
use Rattle.std.specs.Prelude.{List, [], ◌∷◌, length, Bool, true, false, nat_lt, if◌then◌else◌, Option, Some, None, Result, Ok, Err}
use Rattle.wf_def.specs.DefTree.{TriggerTree}
use Rattle.wf_template.specs.TemplateTree.{TemplateTree}
use Rattle.wf_trigger.specs.declared.fault.TriggerFault.{TriggerFault}
use Rattle.wf_val.specs.Arguments.{Answer, wrong_type}
use Rattle.wf_val.specs.ValueTree.{ValueTree, boolean, list, items}
use Rattle.wf_val.specs.declared.function.Fun.{Fun}

abbrev pub split_in : Option TriggerTree → Option TemplateTree
split_in None = None
split_in (Some t) = t.split

abbrev pub conditions_in : Option TriggerTree → List TemplateTree
conditions_in None = []
conditions_in (Some t) = t.conditions

-- the items of the value of `splitOn`
abbrev pub items_in : ValueTree → Result (List ValueTree) TriggerFault
items_in (list ts) = if nat_lt 100000 (length (items ts)) then Err (TriggerFault.SplitTooLong (length (items ts))) else Ok (items ts)
items_in t = Err TriggerFault.SplitNotList

abbrev pub some_items : Result (List ValueTree) TriggerFault → Result (Option (List ValueTree)) TriggerFault
some_items (Ok ts) = Ok (Some ts)
some_items (Err f) = Err f

abbrev pub items_of_split : Answer → Result (Option (List ValueTree)) TriggerFault
items_of_split (Err f) = Err (TriggerFault.Split f)
items_of_split (Ok t) = some_items (items_in t)

-- the items; None: there is no split
abbrev pub split_items : (TemplateTree → Answer) → Option TemplateTree → Result (Option (List ValueTree)) TriggerFault
split_items value None = Ok None
split_items value (Some template) = items_of_split (value template)

-- whether a condition of this value holds
abbrev pub held : Answer → Result Bool TriggerFault
held (Err f) = Err (TriggerFault.Condition f)
held (Ok (boolean b)) = Ok b
held (Ok t) = Err (TriggerFault.Condition (wrong_type Fun.Condition 0))

abbrev pub and_rest : Result Bool TriggerFault → Result Bool TriggerFault → Result Bool TriggerFault
and_rest (Ok true) rest = rest
and_rest (Ok false) rest = Ok false
and_rest (Err f) rest = Err f

-- whether all hold, from left to right up to the first that doesn't
abbrev pub all_hold : (TemplateTree → Answer) → List TemplateTree → Result Bool TriggerFault
all_hold value [] = Ok true
all_hold value (c ∷ cs) = and_rest (held (value c)) (all_hold value cs)
