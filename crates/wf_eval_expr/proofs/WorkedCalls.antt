-- Values of the functions that have a way of their own with their arguments, or ask the look, at worked calls: each way of each function.
-- What the look gives under a name has rows of its own, without expressions, in the crate of looks.
use Rattle.std.proofs.Common.{◌≡◌, ℕ, refl, List, [], ◌∷◌, map, Ok, Err, true, false}
use Rattle.std.specs.Prelude.{pos, codes}
use Rattle.wf_val.specs.ValueTree.{null, boolean, number, text, list, object, trees, no_members}
use Rattle.wf_val.specs.declared.fault.EvalFault.{EvalFault}
use Rattle.wf_val.specs.declared.function.Fun.{Fun}
use Rattle.wf_template.specs.ExprTree.{ExprTree, literal}
use Rattle.wf_look.specs.Told.{over}
use Rattle.wf_eval_expr.specs.Value.{value}
use Rattle.wf_look.proofs.WorkedLook.{nested, one_member, with_body, somewhere, named_workflow}
use Rattle.wf_eval_expr.proofs.WorkedExpressions.{int, word, truth, untruth, nothing, of, by_zero, rest_by_zero, here, there}

-- ---- `if`: only the chosen arm

if-first : here (of (codes "if") (truth ∷ int 1 ∷ by_zero ∷ [])) ≡ (Ok (number (pos 1)), 7)
if-first = refl

if-second : here (of (codes "if") (untruth ∷ by_zero ∷ int 2 ∷ [])) ≡ (Ok (number (pos 2)), 7)
if-second = refl

if-judged_first : here (of (codes "if") (int 1 ∷ by_zero ∷ int 2 ∷ [])) ≡ (Err (EvalFault.WrongType Fun.If 1), 7)
if-judged_first = refl

if-test_faults : here (of (codes "if") (by_zero ∷ int 1 ∷ int 2 ∷ [])) ≡ (Err (EvalFault.Range Fun.Div), 7)
if-test_faults = refl

if-arm_faults : here (of (codes "if") (truth ∷ by_zero ∷ rest_by_zero ∷ [])) ≡ (Err (EvalFault.Range Fun.Div), 7)
if-arm_faults = refl

if-none : here (of (codes "if") ([])) ≡ (Err (EvalFault.WrongType Fun.If 1), 7)
if-none = refl

if-two : here (of (codes "if") (truth ∷ by_zero ∷ [])) ≡ (Err (EvalFault.WrongType Fun.If 3), 7)
if-two = refl

-- ---- `and`, `or`, `coalesce`: up to the first that decides, each judged before the next

and-all : here (of (codes "and") (truth ∷ truth ∷ [])) ≡ (Ok (boolean true), 7)
and-all = refl

and-early : here (of (codes "and") (untruth ∷ by_zero ∷ [])) ≡ (Ok (boolean false), 7)
and-early = refl

and-second : here (of (codes "and") (truth ∷ int 1 ∷ [])) ≡ (Err (EvalFault.WrongType Fun.And 2), 7)
and-second = refl

and-judged_first : here (of (codes "and") (int 1 ∷ by_zero ∷ [])) ≡ (Err (EvalFault.WrongType Fun.And 1), 7)
and-judged_first = refl

and-faults : here (of (codes "and") (truth ∷ by_zero ∷ [])) ≡ (Err (EvalFault.Range Fun.Div), 7)
and-faults = refl

and-null : here (of (codes "and") (nothing ∷ [])) ≡ (Err (EvalFault.WrongType Fun.And 1), 7)
and-null = refl

or-none : here (of (codes "or") (untruth ∷ untruth ∷ [])) ≡ (Ok (boolean false), 7)
or-none = refl

or-early : here (of (codes "or") (truth ∷ int 1 ∷ [])) ≡ (Ok (boolean true), 7)
or-early = refl

or-second : here (of (codes "or") (untruth ∷ word (codes "true") ∷ [])) ≡ (Err (EvalFault.WrongType Fun.Or 2), 7)
or-second = refl

or-judged_first : here (of (codes "or") (int 1 ∷ by_zero ∷ [])) ≡ (Err (EvalFault.WrongType Fun.Or 1), 7)
or-judged_first = refl

coalesce-false : here (of (codes "coalesce") (nothing ∷ untruth ∷ by_zero ∷ [])) ≡ (Ok (boolean false), 7)
coalesce-false = refl

coalesce-empty : here (of (codes "coalesce") (word [] ∷ int 1 ∷ [])) ≡ (Ok (text []), 7)
coalesce-empty = refl

coalesce-all_null : here (of (codes "coalesce") (nothing ∷ nothing ∷ [])) ≡ (Ok null, 7)
coalesce-all_null = refl

coalesce-faults : here (of (codes "coalesce") (by_zero ∷ int 1 ∷ [])) ≡ (Err (EvalFault.Range Fun.Div), 7)
coalesce-faults = refl

-- ---- `string` and `json`

string-null : here (of (codes "string") (nothing ∷ [])) ≡ (Ok (text []), 7)
string-null = refl

string-text : here (of (codes "string") (word (codes "x") ∷ [])) ≡ (Ok (text (codes "x")), 7)
string-text = refl

string-truth : here (of (codes "string") (truth ∷ [])) ≡ (Ok (text (codes "true")), 7)
string-truth = refl

string-list :
    here (of (codes "string") (literal (list (trees (null ∷ text (codes "x") ∷ []))) ∷ []))
    ≡ (Ok (text (codes "[null,\"x\"]")), 7)
string-list = refl

string-none : here (of (codes "string") ([])) ≡ (Err (EvalFault.WrongType Fun.String 1), 7)
string-none = refl

json-null : here (of (codes "json") (nothing ∷ [])) ≡ (Ok (object no_members), 7)
json-null = refl

json-number : here (of (codes "json") (int 5 ∷ [])) ≡ (Ok (number (pos 5)), 7)
json-number = refl

json-list : here (of (codes "json") (literal (nested 2) ∷ [])) ≡ (Ok (nested 2), 7)
json-list = refl

json-two : here (of (codes "json") (nothing ∷ nothing ∷ [])) ≡ (Err (EvalFault.WrongType Fun.Json 3), 7)
json-two = refl

-- ---- what a look has under a name

actions-view : here (of (codes "actions") (word (codes "A") ∷ [])) ≡ (Ok (with_body (text (codes "a"))), 7)
actions-view = refl

actions-none : here (of (codes "actions") (word (codes "X") ∷ [])) ≡ (Err (EvalFault.NoValue (codes "X")), 7)
actions-none = refl

actions-any_case : here (of (codes "ACTIONS") (word (codes "C") ∷ [])) ≡ (Ok null, 7)
actions-any_case = refl

actions-no_literal :
    here (of (codes "actions") ((of (codes "string") (word (codes "A") ∷ [])) ∷ []))
    ≡ (Err (EvalFault.WrongType Fun.Actions 1), 7)
actions-no_literal = refl

actions-no_text : here (of (codes "actions") (int 1 ∷ [])) ≡ (Err (EvalFault.WrongType Fun.Actions 1), 7)
actions-no_text = refl

actions-deep : here (of (codes "actions") (word (codes "E") ∷ [])) ≡ (Err (EvalFault.TooBig 65 74), 7)
actions-deep = refl

outputs-of_deep : here (of (codes "outputs") (word (codes "E") ∷ [])) ≡ (Ok (nested 64), 7)
outputs-of_deep = refl

outputs-deep : here (of (codes "outputs") (word (codes "F") ∷ [])) ≡ (Err (EvalFault.TooBig 65 66), 7)
outputs-deep = refl

outputs-of_list :
    here (of (codes "outputs") (word (codes "D") ∷ []))
    ≡ (Ok (list (trees (one_member (codes "body") (boolean false) ∷ null ∷ null ∷ []))), 7)
outputs-of_list = refl

body-of_list :
    here (of (codes "body") (word (codes "D") ∷ []))
    ≡ (Ok (list (trees (boolean false ∷ null ∷ null ∷ []))), 7)
body-of_list = refl

result-views : here (of (codes "result") (word (codes "S") ∷ [])) ≡ (Ok (list (trees [])), 7)
result-views = refl

items-item : here (of (codes "items") (word (codes "L") ∷ [])) ≡ (Ok (text (codes "i")), 7)
items-item = refl

indexes-index : here (of (codes "iterationIndexes") (word (codes "L") ∷ [])) ≡ (Ok (number (pos 2)), 7)
indexes-index = refl

parameters-value : here (of (codes "parameters") (word (codes "p") ∷ [])) ≡ (Ok (boolean true), 7)
parameters-value = refl

variables-value : here (of (codes "variables") (word (codes "v") ∷ [])) ≡ (Ok (text (codes "x")), 7)
variables-value = refl

-- ---- what a look has; a fault has the function's own name

action-own : here (of (codes "action") ([])) ≡ (Ok (text (codes "me")), 7)
action-own = refl

item-nearest : here (of (codes "item") ([])) ≡ (Ok (boolean false), 7)
item-nearest = refl

item-none : there (of (codes "ITEM") ([])) ≡ (Err (EvalFault.NoValue (codes "item")), 7)
item-none = refl

item-over : value (over (text (codes "above")) somewhere) (of (codes "item") []) 7 ≡ (Ok (text (codes "above")), 7)
item-over = refl

items-over :
    value (over (text (codes "above")) somewhere) (of (codes "items") (word (codes "L") ∷ [])) 7
    ≡ (Ok (text (codes "i")), 7)
items-over = refl

trigger-value : here (of (codes "trigger") ([])) ≡ (Ok (with_body (boolean true)), 7)
trigger-value = refl

trigger-outputs : here (of (codes "triggerOutputs") ([])) ≡ (Ok (one_member (codes "body") (boolean true)), 7)
trigger-outputs = refl

trigger-body : here (of (codes "triggerBody") ([])) ≡ (Ok (boolean true), 7)
trigger-body = refl

workflow-run : here (of (codes "workflow") ([])) ≡ (Ok named_workflow, 7)
workflow-run = refl

-- ---- `min`, `max`, `intersection`, `union`: all arguments have their values before any is judged, and then the leftmost that is wrong
-- is told at its own place

abbrev numbers : List ℕ → ExprTree
numbers ns = literal (list (trees (map (λ n. number (pos n)) ns)))

min-least : here (of (codes "min") (int 3 ∷ int 1 ∷ int 2 ∷ [])) ≡ (Ok (number (pos 1)), 7)
min-least = refl

min-all_first : here (of (codes "min") (word (codes "x") ∷ by_zero ∷ [])) ≡ (Err (EvalFault.Range Fun.Div), 7)
min-all_first = refl

min-of_a_list : here (of (codes "min") (numbers (3 ∷ 1 ∷ []) ∷ [])) ≡ (Ok (number (pos 1)), 7)
min-of_a_list = refl

min-list_and_number : here (of (codes "min") (numbers (3 ∷ []) ∷ int 1 ∷ [])) ≡ (Err (EvalFault.WrongType Fun.Min 1), 7)
min-list_and_number = refl

min-none : here (of (codes "min") []) ≡ (Err (EvalFault.WrongType Fun.Min 1), 7)
min-none = refl

max-greatest : here (of (codes "max") (int 1 ∷ int 3 ∷ int 2 ∷ [])) ≡ (Ok (number (pos 3)), 7)
max-greatest = refl

max-third : here (of (codes "max") (int 1 ∷ int 2 ∷ truth ∷ nothing ∷ [])) ≡ (Err (EvalFault.WrongType Fun.Max 3), 7)
max-third = refl

intersection-in_order_of_the_first :
    here (of (codes "intersection") (numbers (3 ∷ 1 ∷ 3 ∷ 2 ∷ []) ∷ numbers (2 ∷ 3 ∷ []) ∷ numbers (3 ∷ 2 ∷ 2 ∷ []) ∷ []))
    ≡ (Ok (list (trees (number (pos 3) ∷ number (pos 2) ∷ []))), 7)
intersection-in_order_of_the_first = refl

intersection-third :
    here (of (codes "intersection") (numbers (1 ∷ []) ∷ numbers (2 ∷ []) ∷ truth ∷ []))
    ≡ (Err (EvalFault.WrongType Fun.Intersection 3), 7)
intersection-third = refl

intersection-all_first :
    here (of (codes "intersection") (numbers (1 ∷ []) ∷ truth ∷ by_zero ∷ []))
    ≡ (Err (EvalFault.Range Fun.Div), 7)
intersection-all_first = refl

intersection-of_one : here (of (codes "intersection") (numbers (1 ∷ []) ∷ [])) ≡ (Err (EvalFault.WrongType Fun.Intersection 2), 7)
intersection-of_one = refl

union-first_stays :
    here (of (codes "union") (numbers (2 ∷ 1 ∷ 2 ∷ []) ∷ numbers (3 ∷ 1 ∷ []) ∷ numbers (0 ∷ []) ∷ []))
    ≡ (Ok (list (trees (number (pos 2) ∷ number (pos 1) ∷ number (pos 3) ∷ number (pos 0) ∷ []))), 7)
union-first_stays = refl

union-third :
    here (of (codes "union") (numbers (1 ∷ []) ∷ numbers (2 ∷ []) ∷ truth ∷ nothing ∷ []))
    ≡ (Err (EvalFault.WrongType Fun.Union 3), 7)
union-third = refl

union-all_first : here (of (codes "union") (truth ∷ by_zero ∷ [])) ≡ (Err (EvalFault.Range Fun.Div), 7)
union-all_first = refl

union-of_one : here (of (codes "union") (numbers (1 ∷ []) ∷ [])) ≡ (Err (EvalFault.WrongType Fun.Union 2), 7)
union-of_one = refl
