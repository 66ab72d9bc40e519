-- Which runs start, or why none can: the trigger, the parameters, the split, the conditions, in this order.
use Rattle.std.specs.Prelude.{List, Option, Result, Ok, Err}
use Rattle.wf_answers.specs.Inputs.{InputsTree}
use Rattle.wf_def.specs.DefTree.{ParamTree, TriggerTree}
use Rattle.wf_template.specs.TemplateTree.{TemplateTree}
use Rattle.wf_trigger.specs.Choosing.{chosen, name_value}
use Rattle.wf_trigger.specs.Parameters.{parameters_of}
use Rattle.wf_trigger.specs.Splitting.{all_hold, conditions_in, split_in, split_items}
use Rattle.wf_trigger.specs.Starts.{StartTree, starts_of, trigger_value}
use Rattle.wf_trigger.specs.TriggerLook.{value_told}
use Rattle.wf_trigger.specs.declared.fault.TriggerFault.{TriggerFault}
use Rattle.wf_val.specs.Arguments.{Answer}
use Rattle.wf_val.specs.ValueTree.{Member}

-- one after the other; a fault stands
abbrev pub then_do : {X Y : Type 0} → Result X TriggerFault → (X → Result Y TriggerFault) → Result Y TriggerFault
then_do (Ok x) next = next x
then_do (Err f) next = Err f

-- what starts of a trigger with these parameters; `value` is what a template comes to
abbrev pub started : (TemplateTree → Answer) → Option TriggerTree → InputsTree → List Member → Result (List StartTree) TriggerFault
started value trigger i values =
    then_do (split_items value (split_in trigger)) (λ split.
    then_do (all_hold value (conditions_in trigger)) (λ holds.
    Ok (starts_of (record { run = i.run; seed = i.seed; name = name_value trigger; outputs = i.outputs; parameters = values }) split
    holds)))

-- what a template comes to where all of the trigger's outputs are seen, before any split
abbrev pub value_in : Option TriggerTree → InputsTree → List Member → TemplateTree → Answer
value_in trigger i values = value_told (trigger_value (name_value trigger) i.outputs) values i.moment i.run i.seed

-- all: of declared parameters, of values that the wrapper round the definition gives, of triggers and of inputs
abbrev pub runs_of : List ParamTree → List Member → List TriggerTree → InputsTree → Result (List StartTree) TriggerFault
runs_of params given triggers i =
    then_do (chosen i.trigger triggers) (λ trigger.
    then_do (parameters_of i.parameters given params) (λ values.
    started (value_in trigger i values) trigger i values))
