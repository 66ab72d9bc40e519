-- What is asked of actions that call a service, wait, answer, or end the run (Workflow Definition Language, "Action types").
use Rattle.std.specs.Prelude.{Bool, ◌&&◌, is_some, is_ok, codes}
use Rattle.wf_retry.specs.Reading.{policy_of}
use Rattle.wf_val.specs.ValueTree.{ValueTree}
use Rattle.wf_val.specs.Get.{get}
use Rattle.wf_kinds.specs.Parts.{absent_or, input, is_object}

-- "Retry policies"
abbrev pub is_policy : ValueTree → Bool
is_policy t = is_ok (policy_of t)

abbrev pub connector_has : ValueTree → Bool
connector_has t = is_object (get (codes "inputs") t) && absent_or is_policy (input (codes "retryPolicy") t)

abbrev pub wait_has : ValueTree → Bool
wait_has t = is_object (get (codes "inputs") t)

-- so `inputs` is an object
abbrev pub response_has : ValueTree → Bool
response_has t = is_some (input (codes "statusCode") t)

abbrev pub terminate_has : ValueTree → Bool
terminate_has t = is_some (input (codes "runStatus") t)
