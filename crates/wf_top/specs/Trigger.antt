-- Why no run could start, as it is printed.
use Rattle.std.specs.Prelude.{ℕ, List, [], ◌∷◌, ◌++◌, codes, decimal}
use Rattle.wf_json.specs.FaultText.{fault_text}
use Rattle.wf_json.specs.Json.{string}
use Rattle.wf_trigger.specs.declared.fault.TriggerFault.{TriggerFault}

-- A fault of a trigger. Want of memory is none, and has a line of its own.
abbrev pub trigger_words : TriggerFault → List ℕ
trigger_words TriggerFault.NoTrigger = codes "NoTrigger"
trigger_words (TriggerFault.NoParameter name) = codes "NoParameter " ++ string name
trigger_words (TriggerFault.ParameterType name) = codes "ParameterType " ++ string name
trigger_words (TriggerFault.NotAllowed name) = codes "NotAllowed " ++ string name
trigger_words (TriggerFault.Split fault) = codes "Split " ++ fault_text fault
trigger_words TriggerFault.SplitNotList = codes "SplitNotList"
trigger_words (TriggerFault.SplitTooLong count) = codes "SplitTooLong " ++ decimal count
trigger_words (TriggerFault.Condition fault) = codes "Condition " ++ fault_text fault
trigger_words TriggerFault.Memory = []

-- its line
unfoldable pub trigger_line : TriggerFault → List ℕ
trigger_line fault = codes "trigger " ++ trigger_words fault ++ 10 ∷ []
