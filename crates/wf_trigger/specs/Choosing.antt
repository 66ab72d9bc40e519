-- The trigger that starts the runs.
use Rattle.std.specs.Prelude.{ℕ, List, [], ◌∷◌, Option, Some, None, Result, Ok, Err}
use Rattle.wf_def.specs.DefTree.{TriggerTree}
use Rattle.wf_trigger.specs.declared.fault.TriggerFault.{TriggerFault}
use Rattle.wf_val.specs.NameOrder.{find_named}
use Rattle.wf_val.specs.ValueTree.{ValueTree, null, text}

abbrev pub trigger_named : List ℕ → List TriggerTree → Option TriggerTree
trigger_named = find_named (λ (t : TriggerTree). t.name)

abbrev pub found : Option TriggerTree → Result (Option TriggerTree) TriggerFault
found None = Err TriggerFault.NoTrigger
found (Some t) = Ok (Some t)

-- the one that the inputs name, else the only one, else none
abbrev pub chosen : Option (List ℕ) → List TriggerTree → Result (Option TriggerTree) TriggerFault
chosen (Some name) ts = found (trigger_named name ts)
chosen None [] = Ok None
chosen None (t ∷ []) = Ok (Some t)
chosen None (t ∷ u ∷ ts) = Err TriggerFault.NoTrigger

-- its name as a value
abbrev pub name_value : Option TriggerTree → ValueTree
name_value None = null
name_value (Some t) = text t.name
