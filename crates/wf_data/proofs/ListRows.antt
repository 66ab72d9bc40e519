-- Select, Query and Join at worked values: each fault with its function and place, and which of two faults comes first.
use Rattle.std.proofs.Common.{◌≡◌, refl, ap, ℕ, List, [], ◌∷◌, true, false, Err}
use Rattle.std.specs.Fmt.{digits}
use Rattle.std.specs.Prelude.{pos, codes}
use Rattle.wf_val.specs.Arguments.{Answer, given}
use Rattle.wf_val.specs.ValueTree.{ValueTree, null, boolean, text}
use Rattle.wf_val.specs.declared.fault.EvalFault.{EvalFault}
use Rattle.wf_val.specs.declared.function.Fun.{Fun}
use Rattle.wf_template.specs.DataTree as inputs
use Rattle.wf_template.specs.ExprTree.{literal}
use Rattle.wf_template.specs.TemplateTree.{plain, whole}
use Rattle.wf_eval.proofs.WorkedLook.{nested, nowhere}
use Rattle.wf_eval.specs.Told.{Told}
use Rattle.wf_eval.proofs.WorkedExpressions.{int, word, truth, untruth, nothing, by_zero, rest_by_zero, of}
use Rattle.wf_data.specs.Lists.{join_inputs, join_of, joined, made_join, made_query, made_select}
use Rattle.wf_data.specs.Made.{fitting, one_member}
use Rattle.wf_data.proofs.RowParts.{plus, items, fields, that, listed, tree_items, tree_fields, item, random, Outcome, makes, faults}

abbrev from : ValueTree → ValueTree
from t = one_member (codes "from") t

abbrev body : ValueTree → ValueTree
body t = one_member (codes "body") t

-- in a loop whose item is this
abbrev inside : ValueTree → Told
inside t = record nowhere { items = t ∷ [] }

abbrev no_list : Outcome
no_list = faults (EvalFault.WrongType Fun.From 1)

-- a list that fits, but not as a member of what is kept
abbrev deepest : inputs.DataTree
deepest = that (literal (nested 64))

-- ---- Select

select-two :
    made_select nowhere (listed (plus 1 ∷ plus 2 ∷ [])) (that (of (codes "mul") (item ∷ int 10 ∷ []))) 7
    ≡ makes (from (items (plus 1 ∷ plus 2 ∷ []))) (body (items (plus 10 ∷ plus 20 ∷ [])))
select-two = refl

select-objects :
    made_select nowhere (listed (null ∷ boolean true ∷ [])) (tree_fields ((codes "a", that item) ∷ [])) 7
    ≡ makes (from (items (null ∷ boolean true ∷ [])))
    (body (items (one_member (codes "a") null ∷ one_member (codes "a") (boolean true) ∷ [])))
select-objects = refl

-- over no item nothing is evaluated
select-none : made_select nowhere (listed []) (that by_zero) 7 ≡ makes (from (items [])) (body (items []))
select-none = refl

select-null : made_select nowhere (that nothing) (that by_zero) 7 ≡ no_list
select-null = refl

select-text : made_select nowhere (that (word (codes "[]"))) (that item) 7 ≡ no_list
select-text = refl

select-object : made_select nowhere (tree_fields []) (that item) 7 ≡ no_list
select-object = refl

select-from_fault : made_select nowhere (that rest_by_zero) (that by_zero) 7 ≡ faults (EvalFault.Range Fun.Mod)
select-from_fault = refl

-- the item is the list's and not the one of a loop round the action, which its list still sees
select-nearest :
    made_select (inside (items (plus 1 ∷ []))) (that item) (that item) 7
    ≡ makes (from (items (plus 1 ∷ []))) (body (items (plus 1 ∷ [])))
select-nearest = refl

select-first_fault :
    made_select nowhere (listed (plus 1 ∷ plus 0 ∷ text [] ∷ [])) (that (of (codes "div") (int 1 ∷ item ∷ []))) 7
    ≡ faults (EvalFault.Range Fun.Div)
select-first_fault = refl

-- words are counted over the list and all items
select-words : (made_select nowhere (listed (plus 1 ∷ plus 2 ∷ [])) (that random) 7).1 ≡ 9
select-words = refl

select-list_words : (made_select nowhere (tree_items (that random ∷ [])) (that random) 7).1 ≡ 9
select-list_words = refl

-- what is kept is measured once all items are evaluated, and before what is given out
select-too_big : made_select nowhere deepest inputs.null 7 ≡ faults (EvalFault.TooBig 65 71)
select-too_big = refl

select-fault_first : made_select nowhere deepest (that by_zero) 7 ≡ faults (EvalFault.Range Fun.Div)
select-fault_first = refl

select-inputs_first : made_select nowhere deepest (tree_items (that item ∷ [])) 7 ≡ faults (EvalFault.TooBig 65 71)
select-inputs_first = refl

select-outputs_too_big :
    made_select nowhere (that (literal (nested 63))) (tree_items (that item ∷ [])) 7 ≡ faults (EvalFault.TooBig 65 71)
select-outputs_too_big = refl

-- ---- Query

query-two :
    made_query nowhere (listed (plus 1 ∷ plus 2 ∷ plus 3 ∷ [])) (whole (of (codes "greater") (item ∷ int 1 ∷ []))) 7
    ≡ makes (from (items (plus 1 ∷ plus 2 ∷ plus 3 ∷ []))) (body (items (plus 2 ∷ plus 3 ∷ [])))
query-two = refl

query-all :
    made_query nowhere (listed (plus 2 ∷ plus 1 ∷ plus 2 ∷ [])) (whole truth) 7
    ≡ makes (from (items (plus 2 ∷ plus 1 ∷ plus 2 ∷ []))) (body (items (plus 2 ∷ plus 1 ∷ plus 2 ∷ [])))
query-all = refl

query-none : made_query nowhere (listed (plus 1 ∷ [])) (whole untruth) 7 ≡ makes (from (items (plus 1 ∷ []))) (body (items []))
query-none = refl

query-empty : made_query nowhere (listed []) (whole by_zero) 7 ≡ makes (from (items [])) (body (items []))
query-empty = refl

query-nearest :
    made_query (inside (boolean false)) (listed (boolean true ∷ [])) (whole item) 7
    ≡ makes (from (items (boolean true ∷ []))) (body (items (boolean true ∷ [])))
query-nearest = refl

query-no_list : made_query nowhere (that (int 1)) (whole by_zero) 7 ≡ no_list
query-no_list = refl

query-null : made_query nowhere (listed (boolean true ∷ null ∷ [])) (whole item) 7 ≡ faults (EvalFault.WrongType Fun.Query 1)
query-null = refl

query-number : made_query nowhere (listed (plus 1 ∷ [])) (whole item) 7 ≡ faults (EvalFault.WrongType Fun.Query 1)
query-number = refl

query-text : made_query nowhere (listed (plus 0 ∷ [])) (plain (codes "true")) 7 ≡ faults (EvalFault.WrongType Fun.Query 1)
query-text = refl

-- an item is judged before the next is looked at
query-judged :
    made_query nowhere (listed (plus 0 ∷ text [] ∷ [])) (whole (of (codes "add") (item ∷ int 1 ∷ []))) 7
    ≡ faults (EvalFault.WrongType Fun.Query 1)
query-judged = refl

query-fault : made_query nowhere (listed (boolean true ∷ [])) (whole by_zero) 7 ≡ faults (EvalFault.Range Fun.Div)
query-fault = refl

query-too_big : made_query nowhere deepest (whole untruth) 7 ≡ faults (EvalFault.TooBig 65 71)
query-too_big = refl

query-words :
    (made_query nowhere (listed (plus 1 ∷ plus 2 ∷ [])) (whole (of (codes "equals") (random ∷ int 0 ∷ []))) 7).1 ≡ 9
query-words = refl

-- ---- Join

abbrev joins : ValueTree → List ℕ → List ℕ → Outcome
joins ts with' all = makes (fields ((codes "from", ts) ∷ (codes "joinWith", text with') ∷ [])) (body (text all))

join-three :
    made_join nowhere (listed (plus 1 ∷ plus 2 ∷ plus 3 ∷ [])) (that (word (codes ","))) 7
    ≡ joins (items (plus 1 ∷ plus 2 ∷ plus 3 ∷ [])) (codes ",") (codes "1,2,3")
unfolding digits
join-three = refl

-- items become texts: a text is itself, null is empty, all else is its JSON
join-texts :
    made_join nowhere (listed (text (codes "x") ∷ null ∷ boolean true ∷ items (text (codes "y") ∷ []) ∷ [])) (that (word (codes "; "))) 7
    ≡ joins (items (text (codes "x") ∷ null ∷ boolean true ∷ items (text (codes "y") ∷ []) ∷ [])) (codes "; ") (codes "x; ; true; [\"y\"]")
join-texts = refl

join-one :
    made_join nowhere (listed (text (codes "x") ∷ [])) (that (word (codes ","))) 7
    ≡ joins (items (text (codes "x") ∷ [])) (codes ",") (codes "x")
join-one = refl

join-none : made_join nowhere (listed []) (that (word (codes ","))) 7 ≡ joins (items []) (codes ",") []
join-none = refl

join-with_nothing :
    made_join nowhere (listed (text (codes "x") ∷ text (codes "y") ∷ [])) (that (word [])) 7
    ≡ joins (items (text (codes "x") ∷ text (codes "y") ∷ [])) [] (codes "xy")
join-with_nothing = refl

join-with_number : made_join nowhere (listed []) (inputs.number (pos 1)) 7 ≡ faults (EvalFault.WrongType Fun.JoinWith 1)
join-with_number = refl

join-with_null : made_join nowhere (listed []) inputs.null 7 ≡ faults (EvalFault.WrongType Fun.JoinWith 1)
join-with_null = refl

join-with_fault : made_join nowhere (listed []) (that by_zero) 7 ≡ faults (EvalFault.Range Fun.Div)
join-with_fault = refl

-- the list is judged before the text between is evaluated
join-no_list : made_join nowhere (that truth) (that by_zero) 7 ≡ no_list
join-no_list = refl

join-too_big : made_join nowhere deepest (that (word [])) 7 ≡ faults (EvalFault.TooBig 65 81)
join-too_big = refl

-- that the text doesn't fit comes before that what is kept doesn't
join-text_first : (v : ValueTree) (s : List ℕ) (f : EvalFault) → join_of v (text s) ≡ Err f → joined v (text s) ≡ Err f
join-text_first v s f e = ap (λ (a : Answer). given a (λ t. fitting (join_inputs v (text s)) (one_member (codes "body") t))) e
