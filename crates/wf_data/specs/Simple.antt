-- THE KINDS THAT TAKE IN THEIR INPUTS AS THEY ARE: Compose, Wait, Response and Terminate.
use Rattle.std.specs.Prelude.{ℕ, List, Option, Some, None, Result, Err, codes, if◌then◌else◌}
use Rattle.std.specs.Str.{str_eq_ignore_ascii_case}
use Rattle.wf_val.specs.Arguments.{wrong_type}
use Rattle.wf_val.specs.Get.{get}
use Rattle.wf_val.specs.ValueTree.{ValueTree, null, text}
use Rattle.wf_val.specs.declared.fault.EvalFault.{EvalFault}
use Rattle.wf_val.specs.declared.function.Fun.{Fun}
use Rattle.wf_template.specs.DataTree.{DataTree}
use Rattle.wf_eval.specs.Told.{Told}
use Rattle.wf_eval.specs.TreeValue.{tree_value}
use Rattle.wf_record.specs.declared.status.RunStatus.{RunStatus}
use Rattle.wf_data.specs.Made.{MadeTree, Making, fitting, followed}

-- Compose and Response give out what they take in; Wait gives out nothing
abbrev pub made_compose : Told → DataTree → Making
made_compose l t n = followed (tree_value l t n) (λ v. fitting v v)

abbrev pub made_response : Told → DataTree → Making
made_response l t n = followed (tree_value l t n) (λ v. fitting v v)

abbrev pub made_wait : Told → DataTree → Making
made_wait l t n = followed (tree_value l t n) (λ v. fitting v null)

-- the status of a run by its name, without the case of ASCII letters
abbrev pub run_status_named : List ℕ → Option RunStatus
run_status_named s =
    if str_eq_ignore_ascii_case s (codes "Succeeded") then Some RunStatus.Succeeded else
    (if str_eq_ignore_ascii_case s (codes "Failed") then Some RunStatus.Failed else
    (if str_eq_ignore_ascii_case s (codes "Cancelled") then Some RunStatus.Cancelled else None))

-- the status that a member gives, where it is there and is a text
abbrev pub run_status_by : Option ValueTree → Option RunStatus
run_status_by (Some (text s)) = run_status_named s
run_status_by t = None

-- the status that the inputs of a Terminate give its run
abbrev pub run_status_of : ValueTree → Option RunStatus
run_status_of v = run_status_by (get (codes "runStatus") v)

-- what a Terminate keeps, with the status that it gives its run; one without a status has a fault
abbrev pub terminated : ValueTree → Option RunStatus → Result MadeTree EvalFault
terminated v (Some s) = fitting v null
terminated v None = Err (wrong_type Fun.Terminate 0)

abbrev pub made_terminate : Told → DataTree → Making
made_terminate l t n = followed (tree_value l t n) (λ v. terminated v (run_status_of v))
