-- Values of what is got and decided without evaluating, where a reader can work them out: each fault with its function and place, and
-- each edge.
use Rattle.std.proofs.Common.{◌≡◌, ◌-◌, ◌^◌, refl, [], ◌∷◌, Ok, Err, Some, None, true, false, ◌+◌}
use Rattle.std.specs.Prelude.{pos, negsuc, codes, slice_get}
use Rattle.wf_val.specs.ValueTree.{null, boolean, number, text, list, trees}
use Rattle.wf_val.specs.declared.fault.EvalFault.{EvalFault}
use Rattle.wf_val.specs.declared.function.Fun.{Fun}
use Rattle.wf_functions.specs.declared.draw.Draw.{Draw}
use Rattle.wf_functions.specs.declared.draw.GuidForm.{GuidForm}
use Rattle.wf_template.specs.ExprTree.{literal, call, expr_trees}
use Rattle.wf_look.specs.Accesses.{member_row, index_row}
use Rattle.wf_look.specs.Args.{literal_name}
use Rattle.wf_look.specs.Drawn.{drawn}
use Rattle.wf_look.specs.Early.{stop_at, at_end}
use Rattle.wf_look.specs.Looked.{named_row, named_by, told_row}
use Rattle.wf_look.specs.Measured.{with_more, measured_answer}
use Rattle.wf_look.specs.Told.{over, raised, next_word, words}
use Rattle.wf_look.proofs.WorkedLook.{one_member, with_body, somewhere, nowhere, named_workflow}

-- ---- accesses: to what is there, to what isn't, and by a key that is neither text nor number

member-there : member_row (codes "a") false (one_member (codes "a") (number (pos 5))) ≡ Ok (number (pos 5))
member-there = refl

member-absent : member_row (codes "A") false (one_member (codes "a") (number (pos 5))) ≡ Err (EvalFault.NoMember (codes "A"))
member-absent = refl

member-absent_soft : member_row (codes "A") true (one_member (codes "a") (number (pos 5))) ≡ Ok null
member-absent_soft = refl

member-of_null : member_row (codes "x") false null ≡ Err (EvalFault.NoMember (codes "x"))
member-of_null = refl

member-of_null_soft : member_row (codes "x") true null ≡ Ok null
member-of_null_soft = refl

member-of_list : member_row (codes "0") false (list (trees (null ∷ []))) ≡ Err (EvalFault.NoMember (codes "0"))
member-of_list = refl

index-name : index_row false (one_member (codes "a") (boolean true)) (text (codes "a")) ≡ Ok (boolean true)
index-name = refl

index-name_on_list : index_row false (list (trees (null ∷ []))) (text (codes "0")) ≡ Err (EvalFault.NoMember (codes "0"))
index-name_on_list = refl

index-first : index_row false (list (trees (text (codes "x") ∷ null ∷ []))) (number (pos 0)) ≡ Ok (text (codes "x"))
index-first = refl

index-last : index_row false (list (trees (text (codes "x") ∷ boolean true ∷ []))) (number (pos 1)) ≡ Ok (boolean true)
index-last = refl

index-past_soft : index_row true (list (trees (text (codes "x") ∷ null ∷ []))) (number (pos 2)) ≡ Ok null
index-past_soft = refl

index-below_soft : index_row true (list (trees (text (codes "x") ∷ null ∷ []))) (number (negsuc 0)) ≡ Ok null
index-below_soft = refl

index-of_text_soft : index_row true (text (codes "abc")) (number (pos 0)) ≡ Ok null
index-of_text_soft = refl

index-of_object_soft : index_row true (one_member (codes "0") (boolean true)) (number (pos 0)) ≡ Ok null
index-of_object_soft = refl

index-other_key : index_row false (one_member (codes "a") null) (boolean true) ≡ Err (EvalFault.WrongType Fun.Index 2)
index-other_key = refl

index-other_key_soft : index_row true null null ≡ Err (EvalFault.WrongType Fun.Index 2)
index-other_key_soft = refl

-- ---- the literal name of a call, which is its first argument

literal-first : literal_name (expr_trees (literal (text (codes "A")) ∷ literal (text (codes "B")) ∷ [])) ≡ Some (codes "A")
literal-first = refl

literal-of_call : literal_name (expr_trees (call (codes "string") (expr_trees (literal (text (codes "A")) ∷ [])) ∷ [])) ≡ None
literal-of_call = refl

literal-no_text : literal_name (expr_trees (literal (number (pos 1)) ∷ literal (text (codes "A")) ∷ [])) ≡ None
literal-no_text = refl

literal-no_argument : literal_name (expr_trees ([])) ≡ None
literal-no_argument = refl

named-no_literal : named_by somewhere Fun.Actions None ≡ Err (EvalFault.WrongType Fun.Actions 1)
named-no_literal = refl

named-by_literal : named_by somewhere Fun.Items (Some (codes "L")) ≡ Ok (text (codes "i"))
named-by_literal = refl

-- ---- what a look has under a name

actions-view : named_row somewhere Fun.Actions (codes "A") ≡ Ok (with_body (text (codes "a")))
actions-view = refl

actions-none : named_row somewhere Fun.Actions (codes "X") ≡ Err (EvalFault.NoValue (codes "X"))
actions-none = refl

actions-case_of_name : named_row somewhere Fun.Actions (codes "a") ≡ Err (EvalFault.NoValue (codes "a"))
actions-case_of_name = refl

outputs-of_object : named_row somewhere Fun.Outputs (codes "A") ≡ Ok (one_member (codes "body") (text (codes "a")))
outputs-of_object = refl

outputs-of_null : named_row somewhere Fun.Outputs (codes "C") ≡ Ok null
outputs-of_null = refl

outputs-absent : named_row somewhere Fun.Outputs (codes "G") ≡ Ok null
outputs-absent = refl

outputs-of_list :
    named_row somewhere Fun.Outputs (codes "D")
    ≡ Ok (list (trees (one_member (codes "body") (boolean false) ∷ null ∷ null ∷ [])))
outputs-of_list = refl

outputs-none : named_row somewhere Fun.Outputs (codes "X") ≡ Err (EvalFault.NoValue (codes "X"))
outputs-none = refl

body-of_object : named_row somewhere Fun.Body (codes "A") ≡ Ok (text (codes "a"))
body-of_object = refl

body-of_scalar : named_row somewhere Fun.Body (codes "B") ≡ Ok null
body-of_scalar = refl

body-of_null : named_row somewhere Fun.Body (codes "C") ≡ Ok null
body-of_null = refl

body-of_list : named_row somewhere Fun.Body (codes "D") ≡ Ok (list (trees (boolean false ∷ null ∷ null ∷ [])))
body-of_list = refl

body-none : named_row somewhere Fun.Body (codes "X") ≡ Err (EvalFault.NoValue (codes "X"))
body-none = refl

result-views : named_row somewhere Fun.Result (codes "S") ≡ Ok (list (trees []))
result-views = refl

result-none : named_row somewhere Fun.Result (codes "A") ≡ Err (EvalFault.NoValue (codes "A"))
result-none = refl

items-item : named_row somewhere Fun.Items (codes "L") ≡ Ok (text (codes "i"))
items-item = refl

items-none : named_row somewhere Fun.Items (codes "M") ≡ Err (EvalFault.NoValue (codes "M"))
items-none = refl

indexes-index : named_row somewhere Fun.IterationIndexes (codes "L") ≡ Ok (number (pos 2))
indexes-index = refl

indexes-greatest : named_row somewhere Fun.IterationIndexes (codes "M") ≡ Ok (number (pos (2 ^ 63 - 1)))
indexes-greatest = refl

indexes-cut : named_row somewhere Fun.IterationIndexes (codes "N") ≡ Ok (number (pos (2 ^ 63 - 1)))
indexes-cut = refl

indexes-none : named_row somewhere Fun.IterationIndexes (codes "X") ≡ Err (EvalFault.NoValue (codes "X"))
indexes-none = refl

parameters-value : named_row somewhere Fun.Parameters (codes "p") ≡ Ok (boolean true)
parameters-value = refl

parameters-none : named_row somewhere Fun.Parameters (codes "v") ≡ Err (EvalFault.NoValue (codes "v"))
parameters-none = refl

variables-value : named_row somewhere Fun.Variables (codes "v") ≡ Ok (text (codes "x"))
variables-value = refl

variables-none : named_row somewhere Fun.Variables (codes "p") ≡ Err (EvalFault.NoValue (codes "p"))
variables-none = refl

-- ---- what a look has; a fault has the function's own name

action-own : told_row somewhere Fun.Action ≡ Ok (text (codes "me"))
action-own = refl

action-none : told_row nowhere Fun.Action ≡ Err (EvalFault.NoValue (codes "action"))
action-none = refl

item-nearest : told_row somewhere Fun.Item ≡ Ok (boolean false)
item-nearest = refl

item-none : told_row nowhere Fun.Item ≡ Err (EvalFault.NoValue (codes "item"))
item-none = refl

item-over : told_row (over (text (codes "above")) somewhere) Fun.Item ≡ Ok (text (codes "above"))
item-over = refl

items-over : named_row (over (text (codes "above")) somewhere) Fun.Items (codes "L") ≡ Ok (text (codes "i"))
items-over = refl

item-below : slice_get (over (text (codes "above")) somewhere).items 1 ≡ Some (boolean false)
item-below = refl

trigger-value : told_row somewhere Fun.Trigger ≡ Ok (with_body (boolean true))
trigger-value = refl

trigger-outputs : told_row somewhere Fun.TriggerOutputs ≡ Ok (one_member (codes "body") (boolean true))
trigger-outputs = refl

trigger-body : told_row somewhere Fun.TriggerBody ≡ Ok (boolean true)
trigger-body = refl

trigger-no_object : told_row nowhere Fun.TriggerOutputs ≡ Ok null
trigger-no_object = refl

trigger-no_body : told_row nowhere Fun.TriggerBody ≡ Ok null
trigger-no_body = refl

workflow-run : told_row somewhere Fun.Workflow ≡ Ok named_workflow
workflow-run = refl

-- ---- where `and`, `or` and `coalesce` stop

stop-and_true : stop_at Fun.And 0 (Ok (boolean true)) ≡ None
stop-and_true = refl

stop-and_false : stop_at Fun.And 1 (Ok (boolean false)) ≡ Some (Ok (boolean false))
stop-and_false = refl

stop-or_true : stop_at Fun.Or 0 (Ok (boolean true)) ≡ Some (Ok (boolean true))
stop-or_true = refl

stop-or_false : stop_at Fun.Or 1 (Ok (boolean false)) ≡ None
stop-or_false = refl

stop-no_truth : stop_at Fun.Or 1 (Ok null) ≡ Some (Err (EvalFault.WrongType Fun.Or 2))
stop-no_truth = refl

stop-coalesce_null : stop_at Fun.Coalesce 0 (Ok null) ≡ None
stop-coalesce_null = refl

stop-coalesce_false : stop_at Fun.Coalesce 0 (Ok (boolean false)) ≡ Some (Ok (boolean false))
stop-coalesce_false = refl

stop-coalesce_fault : stop_at Fun.Coalesce 0 (Err (EvalFault.Range Fun.Div)) ≡ Some (Err (EvalFault.Range Fun.Div))
stop-coalesce_fault = refl

end-and : at_end Fun.And ≡ boolean true
end-and = refl

end-or : at_end Fun.Or ≡ boolean false
end-or = refl

end-coalesce : at_end Fun.Coalesce ≡ null
end-coalesce = refl

-- ---- the next word, which is drawn where there is something to make of it

drawn-one : (drawn somewhere (Ok (Draw.Guid GuidForm.Digits)) 7).1 ≡ 8
drawn-one = refl

drawn-none : drawn somewhere (Err (EvalFault.Range Fun.Guid)) 7 ≡ (Err (EvalFault.Range Fun.Guid), 7)
drawn-none = refl

-- ---- a text that is measured

measured-behind : with_more (codes "c") (codes "ab", 2) ≡ (codes "abc", 3)
measured-behind = refl

measured-last : with_more (codes "c") (codes "ab", 2 ^ 20 - 2) ≡ (codes "abc", 2 ^ 20 - 1)
measured-last = refl

measured-past : with_more (codes "c") (codes "ab", 2 ^ 20 - 1) ≡ (codes "ab", 2 ^ 20)
measured-past = refl

measured-greatest : with_more (codes "c") ([], 2 ^ 64 - 1) ≡ ([], 2 ^ 64 - 1)
measured-greatest = refl

measured-fits : measured_answer (codes "ab", 2 ^ 20 - 1) ≡ Ok (text (codes "ab"))
measured-fits = refl

measured-too_big : measured_answer (codes "ab", 2 ^ 20) ≡ Err (EvalFault.TooBig 0 (2 ^ 20 + 1))
measured-too_big = refl

-- ---- the number of words drawn

raised-none : raised 0 ≡ 1
raised-none = refl

raised-last : raised (2 ^ 64 - 2) ≡ 2 ^ 64 - 1
raised-last = refl

raised-greatest : raised (2 ^ 64 - 1) ≡ 2 ^ 64 - 1
raised-greatest = refl

words-in_a_row : words somewhere 7 2 ≡ next_word somewhere 7 ∷ next_word somewhere 8 ∷ []
words-in_a_row = refl
