-- The kinds that change a variable at worked values: each fault with its function and place, and which of two faults comes first.
use Rattle.std.proofs.Common.{◌≡◌, refl, ℕ, ◌-◌, ◌^◌, List, [], ◌∷◌, true, false, Some, None}
use Rattle.std.specs.Fmt.{digits}
use Rattle.std.specs.Prelude.{pos, negsuc, codes}
use Rattle.wf_val.specs.ValueTree.{ValueTree, null, boolean, number, text}
use Rattle.wf_val.specs.declared.fault.EvalFault.{EvalFault}
use Rattle.wf_val.specs.declared.function.Fun.{Fun}
use Rattle.wf_template.specs.DataTree as inputs
use Rattle.wf_template.specs.ExprTree.{literal}
use Rattle.wf_data.proofs.WorkedLook.{nested, nowhere, only}
use Rattle.wf_data.specs.Told.{Told}
use Rattle.wf_data.proofs.WorkedExpressions.{int, word, by_zero, of}
use Rattle.wf_data.specs.Made.{one_member}
use Rattle.wf_data.proofs.RowParts.{plus, greatest, least, items, fields, that, listed, random, Outcome, makes, faults}
use Rattle.wf_variables.specs.Initials.{given_item}
use Rattle.wf_variables.specs.Writing.{made_append_array, made_append_string, made_decrement, made_increment, made_set}

abbrev v : List ℕ
v = codes "v"

-- a look whose one variable has this value
abbrev having : ValueTree → Told
having t = record nowhere { variable = only (codes "v") t }

-- the value that is given is kept, and the new one is given out
abbrev gives : ValueTree → ValueTree → Outcome
gives t u = makes (given_item (codes "v") t) (one_member (codes "body") (given_item (codes "v") u))

abbrev wrong : Outcome
wrong = faults (EvalFault.WrongType Fun.Variable 1)

abbrev past : Outcome
past = faults (EvalFault.Range Fun.Variable)

-- ---- SetVariable

set-number : made_set (having (plus 1)) v (that (int 2)) 7 ≡ gives (plus 2) (plus 2)
set-number = refl

set-truth : made_set (having (boolean true)) v (inputs.boolean false) 7 ≡ gives (boolean false) (boolean false)
set-truth = refl

set-text : made_set (having (text [])) v (that (word (codes "x"))) 7 ≡ gives (text (codes "x")) (text (codes "x"))
set-text = refl

set-list : made_set (having (items [])) v (listed (null ∷ [])) 7 ≡ gives (items (null ∷ [])) (items (null ∷ []))
set-list = refl

set-object :
    made_set (having (fields [])) v (inputs.object (inputs.data_members ((codes "a", inputs.null) ∷ []))) 7
    ≡ gives (one_member (codes "a") null) (one_member (codes "a") null)
set-object = refl

set-other_type : made_set (having (plus 1)) v (that (word (codes "x"))) 7 ≡ wrong
set-other_type = refl

set-number_for_truth : made_set (having (boolean true)) v (that (int 1)) 7 ≡ wrong
set-number_for_truth = refl

set-null : made_set (having (plus 1)) v inputs.null 7 ≡ wrong
set-null = refl

-- the value sees the variable as it was
set-of_itself :
    made_set (having (plus 1)) v (that (of (codes "add") (of (codes "variables") (word (codes "v") ∷ []) ∷ int 1 ∷ []))) 7
    ≡ gives (plus 2) (plus 2)
set-of_itself = refl

-- the value comes first, then the variable, then their types, then the size of what is kept, then that of what is given out
set-fault : made_set nowhere v (that by_zero) 7 ≡ faults (EvalFault.Range Fun.Div)
set-fault = refl

set-no_value : made_set nowhere v inputs.null 7 ≡ faults (EvalFault.NoValue (codes "v"))
set-no_value = refl

set-of_other_name : made_set (having (plus 1)) (codes "V") (that (int 2)) 7 ≡ faults (EvalFault.NoValue (codes "V"))
set-of_other_name = refl

set-type_first : made_set (having (plus 1)) v (that (literal (nested 64))) 7 ≡ wrong
set-type_first = refl

set-deepest : made_set (having (items [])) v (that (literal (nested 62))) 7 ≡ gives (nested 62) (nested 62)
set-deepest = refl

set-outputs_too_big : made_set (having (items [])) v (that (literal (nested 63))) 7 ≡ faults (EvalFault.TooBig 65 84)
set-outputs_too_big = refl

set-inputs_first : made_set (having (items [])) v (that (literal (nested 64))) 7 ≡ faults (EvalFault.TooBig 65 79)
set-inputs_first = refl

set-words : (made_set (having (plus 1)) v (that random) 7).1 ≡ 8
set-words = refl

-- ---- IncrementVariable and DecrementVariable

increment-by_one : made_increment (having (plus 1)) v None 7 ≡ gives (plus 1) (plus 2)
increment-by_one = refl

increment-by_three : made_increment (having (plus 1)) v (Some (that (int 3))) 7 ≡ gives (plus 3) (plus 4)
increment-by_three = refl

increment-by_less : made_increment (having (plus 1)) v (Some (inputs.number (negsuc 1))) 7 ≡ gives (number (negsuc 1)) (number (negsuc 0))
increment-by_less = refl

increment-to_greatest : made_increment (having (plus (2 ^ 63 - 2))) v None 7 ≡ gives (plus 1) greatest
increment-to_greatest = refl

increment-past_greatest : made_increment (having greatest) v None 7 ≡ past
increment-past_greatest = refl

increment-past_least : made_increment (having least) v (Some (inputs.number (negsuc 0))) 7 ≡ past
increment-past_least = refl

increment-by_text : made_increment (having (plus 1)) v (Some (that (word (codes "1")))) 7 ≡ wrong
increment-by_text = refl

-- null isn't as if none were given
increment-by_null : made_increment (having (plus 1)) v (Some inputs.null) 7 ≡ wrong
increment-by_null = refl

increment-of_text : made_increment (having (text (codes "1"))) v None 7 ≡ wrong
increment-of_text = refl

increment-fault : made_increment nowhere v (Some (that by_zero)) 7 ≡ faults (EvalFault.Range Fun.Div)
increment-fault = refl

increment-no_value : made_increment nowhere v (Some inputs.null) 7 ≡ faults (EvalFault.NoValue (codes "v"))
increment-no_value = refl

increment-words : (made_increment (having (plus 1)) v (Some (that random)) 7).1 ≡ 8
increment-words = refl

decrement-by_one : made_decrement (having (plus 1)) v None 7 ≡ gives (plus 1) (plus 0)
decrement-by_one = refl

decrement-by_two : made_decrement (having (plus 0)) v (Some (inputs.number (pos 2))) 7 ≡ gives (plus 2) (number (negsuc 1))
decrement-by_two = refl

decrement-past_least : made_decrement (having least) v None 7 ≡ past
decrement-past_least = refl

-- the least number has no other sign: it can be taken from what is below 0, and from nothing else
decrement-by_least : made_decrement (having (number (negsuc 0))) v (Some (inputs.number (negsuc (2 ^ 63 - 1)))) 7 ≡ gives least greatest
decrement-by_least = refl

decrement-zero_by_least : made_decrement (having (plus 0)) v (Some (inputs.number (negsuc (2 ^ 63 - 1)))) 7 ≡ past
decrement-zero_by_least = refl

decrement-by_truth : made_decrement (having (plus 1)) v (Some (inputs.boolean true)) 7 ≡ wrong
decrement-by_truth = refl

decrement-of_list : made_decrement (having (items [])) v None 7 ≡ wrong
decrement-of_list = refl

decrement-fault : made_decrement nowhere v (Some (that by_zero)) 7 ≡ faults (EvalFault.Range Fun.Div)
decrement-fault = refl

decrement-no_value : made_decrement nowhere v None 7 ≡ faults (EvalFault.NoValue (codes "v"))
decrement-no_value = refl

-- ---- AppendToArrayVariable

append-item : made_append_array (having (items (plus 1 ∷ []))) v (that (int 2)) 7 ≡ gives (plus 2) (items (plus 1 ∷ plus 2 ∷ []))
append-item = refl

append-null : made_append_array (having (items [])) v inputs.null 7 ≡ gives null (items (null ∷ []))
append-null = refl

-- a list is one item
append-list : made_append_array (having (items (plus 1 ∷ []))) v (listed (plus 2 ∷ [])) 7
    ≡ gives (items (plus 2 ∷ [])) (items (plus 1 ∷ items (plus 2 ∷ []) ∷ []))
append-list = refl

append-to_text : made_append_array (having (text [])) v (that (int 2)) 7 ≡ wrong
append-to_text = refl

append-fault : made_append_array nowhere v (that by_zero) 7 ≡ faults (EvalFault.Range Fun.Div)
append-fault = refl

append-no_value : made_append_array nowhere v inputs.null 7 ≡ faults (EvalFault.NoValue (codes "v"))
append-no_value = refl

append-too_big : made_append_array (having (items [])) v (that (literal (nested 62))) 7 ≡ faults (EvalFault.TooBig 65 84)
append-too_big = refl

append-words : (made_append_array (having (items [])) v (that random) 7).1 ≡ 8
append-words = refl

-- ---- AppendToStringVariable

join-text : made_append_string (having (text (codes "a"))) v (that (word (codes "b"))) 7 ≡ gives (text (codes "b")) (text (codes "ab"))
join-text = refl

join-null : made_append_string (having (text (codes "a"))) v inputs.null 7 ≡ gives null (text (codes "a"))
join-null = refl

join-truth : made_append_string (having (text (codes "a"))) v (inputs.boolean true) 7 ≡ gives (boolean true) (text (codes "atrue"))
join-truth = refl

join-number : made_append_string (having (text (codes "a"))) v (that (int 12)) 7 ≡ gives (plus 12) (text (codes "a12"))
unfolding digits
join-number = refl

join-list : made_append_string (having (text [])) v (listed (text (codes "b") ∷ null ∷ [])) 7
    ≡ gives (items (text (codes "b") ∷ null ∷ [])) (text (codes "[\"b\",null]"))
join-list = refl

join-to_number : made_append_string (having (plus 1)) v (that (word (codes "b"))) 7 ≡ wrong
join-to_number = refl

join-fault : made_append_string nowhere v (that by_zero) 7 ≡ faults (EvalFault.Range Fun.Div)
join-fault = refl

join-no_value : made_append_string nowhere v inputs.null 7 ≡ faults (EvalFault.NoValue (codes "v"))
join-no_value = refl

-- the value alone is kept, whatever the variable has: here it doesn't fit
join-inputs_first : made_append_string (having (text (codes "a"))) v (that (literal (nested 64))) 7 ≡ faults (EvalFault.TooBig 65 79)
join-inputs_first = refl
