-- Compose, Wait, Response and Terminate at worked values.
use Rattle.std.proofs.Common.{◌≡◌, refl, [], ◌∷◌, map, true, Some, None}
use Rattle.std.specs.Prelude.{pos, codes}
use Rattle.wf_val.specs.ValueTree.{null, boolean, text}
use Rattle.wf_val.specs.declared.fault.EvalFault.{EvalFault}
use Rattle.wf_val.specs.declared.function.Fun.{Fun}
use Rattle.wf_template.specs.DataTree as inputs
use Rattle.wf_template.specs.ExprTree.{literal}
use Rattle.wf_eval.proofs.WorkedLook.{nested, nowhere}
use Rattle.wf_eval.proofs.WorkedExpressions.{word, truth, by_zero, rest_by_zero}
use Rattle.wf_record.specs.declared.status.RunStatus.{RunStatus}
use Rattle.wf_data.specs.Made.{one_member}
use Rattle.wf_data.specs.Simple.{made_compose, made_response, made_terminate, made_wait, run_status_named, run_status_of}
use Rattle.wf_data.proofs.RowParts.{plus, fields, that, tree_items, tree_fields, random, Outcome, makes, faults}

-- ---- Compose

compose-number : made_compose nowhere (inputs.number (pos 1)) 7 ≡ makes (plus 1) (plus 1)
compose-number = refl

compose-null : made_compose nowhere inputs.null 7 ≡ makes null null
compose-null = refl

compose-object :
    made_compose nowhere (tree_fields ((codes "a", that truth) ∷ (codes "b", inputs.null) ∷ [])) 7
    ≡ makes (fields ((codes "a", boolean true) ∷ (codes "b", null) ∷ [])) (fields ((codes "a", boolean true) ∷ (codes "b", null) ∷ []))
compose-object = refl

compose-leftmost_fault :
    made_compose nowhere (tree_items (that rest_by_zero ∷ that by_zero ∷ [])) 7 ≡ faults (EvalFault.Range Fun.Mod)
compose-leftmost_fault = refl

compose-deepest : made_compose nowhere (that (literal (nested 64))) 7 ≡ makes (nested 64) (nested 64)
compose-deepest = refl

compose-too_deep : made_compose nowhere (tree_items (that (literal (nested 64)) ∷ [])) 7 ≡ faults (EvalFault.TooBig 65 66)
compose-too_deep = refl

-- a word that is drawn counts
compose-words : (made_compose nowhere (that random) 7).1 ≡ 8
compose-words = refl

-- ---- Wait

wait-object : made_wait nowhere (tree_fields ((codes "a", that truth) ∷ [])) 7 ≡ makes (one_member (codes "a") (boolean true)) null
wait-object = refl

wait-fault : made_wait nowhere (tree_fields ((codes "a", that by_zero) ∷ [])) 7 ≡ faults (EvalFault.Range Fun.Div)
wait-fault = refl

-- ---- Response

response-object :
    made_response nowhere (tree_fields ((codes "statusCode", inputs.number (pos 200)) ∷ [])) 7
    ≡ makes (one_member (codes "statusCode") (plus 200)) (one_member (codes "statusCode") (plus 200))
response-object = refl

-- what its status is, isn't asked
response-any_status :
    made_response nowhere (tree_fields ((codes "statusCode", inputs.null) ∷ [])) 7
    ≡ makes (one_member (codes "statusCode") null) (one_member (codes "statusCode") null)
response-any_status = refl

response-fault : made_response nowhere (tree_fields ((codes "statusCode", that by_zero) ∷ [])) 7 ≡ faults (EvalFault.Range Fun.Div)
response-fault = refl

-- ---- Terminate

run_status-three :
    map run_status_named (codes "Succeeded" ∷ codes "Failed" ∷ codes "Cancelled" ∷ [])
    ≡ Some RunStatus.Succeeded ∷ Some RunStatus.Failed ∷ Some RunStatus.Cancelled ∷ []
run_status-three = refl

run_status-any_case :
    map run_status_named (codes "succeeded" ∷ codes "faiLED" ∷ codes "CANCELLED" ∷ [])
    ≡ Some RunStatus.Succeeded ∷ Some RunStatus.Failed ∷ Some RunStatus.Cancelled ∷ []
run_status-any_case = refl

-- statuses that only actions have are no run's, and blanks count
run_status-no_other :
    map run_status_named (codes "Skipped" ∷ codes "TimedOut" ∷ codes "Aborted" ∷ codes "Fail" ∷ codes "Failed " ∷ codes "" ∷ [])
    ≡ None ∷ None ∷ None ∷ None ∷ None ∷ None ∷ []
run_status-no_other = refl

abbrev ending : inputs.DataTree → inputs.DataTree
ending t = tree_fields ((codes "runStatus", t) ∷ [])

abbrev no_status : Outcome
no_status = faults (EvalFault.WrongType Fun.Terminate 1)

-- the status is kept as it was written
terminate-as_written :
    made_terminate nowhere (ending (that (word (codes "faiLED")))) 7 ≡ makes (one_member (codes "runStatus") (text (codes "faiLED"))) null
terminate-as_written = refl

terminate-status : run_status_of (one_member (codes "runStatus") (text (codes "faiLED"))) ≡ Some RunStatus.Failed
terminate-status = refl

terminate-with_error :
    made_terminate nowhere (tree_fields ((codes "runError", inputs.null) ∷ (codes "runStatus", that (word (codes "Failed"))) ∷ [])) 7
    ≡ makes (fields ((codes "runError", null) ∷ (codes "runStatus", text (codes "Failed")) ∷ [])) null
terminate-with_error = refl

terminate-no_status : made_terminate nowhere (ending (that (word (codes "Skipped")))) 7 ≡ no_status
terminate-no_status = refl

terminate-no_text : made_terminate nowhere (ending inputs.null) 7 ≡ no_status
terminate-no_text = refl

terminate-no_member : made_terminate nowhere (tree_fields ((codes "runstatus", that (word (codes "Failed"))) ∷ [])) 7 ≡ no_status
terminate-no_member = refl

terminate-no_object : made_terminate nowhere (that truth) 7 ≡ no_status
terminate-no_object = refl

-- its inputs are evaluated before its status is judged
terminate-fault_first :
    made_terminate nowhere (tree_fields ((codes "runError", that by_zero) ∷ (codes "runStatus", inputs.null) ∷ [])) 7
    ≡ faults (EvalFault.Range Fun.Div)
terminate-fault_first = refl
