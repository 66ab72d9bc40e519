-- What makes and changes a variable, by a value of each type: those that it takes, and those that it doesn't.
use Rattle.std.proofs.Common.{◌≡◌, refl, ℕ, ◌-◌, ◌^◌, List, [], ◌∷◌, ◌++◌, map, true, false, Some, Result, Ok, Err}
use Rattle.std.specs.Prelude.{negsuc, codes, replicate}
use Rattle.wf_val.specs.ValueTree.{ValueTree, null, boolean, number, text}
use Rattle.wf_val.specs.declared.fault.EvalFault.{EvalFault}
use Rattle.wf_val.specs.declared.function.Fun.{Fun}
use Rattle.wf_template.specs.ExprTree.{literal}
use Rattle.wf_def.specs.declared.sort.Sort.{Sort}
use Rattle.wf_look.proofs.WorkedLook.{nested, nowhere}
use Rattle.wf_data.specs.Made.{MadeTree, one_member}
use Rattle.wf_data.proofs.RowParts.{plus, least, items, fields, that}
use Rattle.wf_variables.specs.Initials.{given_item, made_initialize}
use Rattle.wf_variables.specs.Writing.{decremented, incremented, set_to, with_item, with_text}

abbrev v : List ℕ
v = codes "v"

-- the value that is given is kept, and the new one is given out
abbrev gives : ValueTree → ValueTree → Result MadeTree EvalFault
gives t u = Ok (record { inputs = given_item v t; outputs = one_member (codes "body") (given_item v u) })

abbrev wrong : Result MadeTree EvalFault
wrong = Err (EvalFault.WrongType Fun.Variable 1)

-- ---- numbers alone are added and taken away, and 0 is one of them

abbrev no_numbers : List ValueTree
no_numbers = null ∷ boolean true ∷ text (codes "1") ∷ items (plus 1 ∷ []) ∷ fields [] ∷ []

increment-by_others : map (incremented v (plus 1)) no_numbers ≡ replicate 5 wrong
increment-by_others = refl

increment-of_others : map (λ t. incremented v t (plus 1)) no_numbers ≡ replicate 5 wrong
increment-of_others = refl

increment-by_nothing : incremented v (plus 5) (plus 0) ≡ gives (plus 0) (plus 5)
increment-by_nothing = refl

decrement-by_others : map (decremented v (plus 1)) no_numbers ≡ replicate 5 wrong
decrement-by_others = refl

decrement-of_others : map (λ t. decremented v t (plus 1)) no_numbers ≡ replicate 5 wrong
decrement-of_others = refl

decrement-by_nothing : decremented v (plus 5) (plus 0) ≡ gives (plus 0) (plus 5)
decrement-by_nothing = refl

-- the least number of 64 bits is one, too

abbrev above_least : ValueTree
above_least = number (negsuc (2 ^ 63 - 2))

increment-to_least : incremented v above_least (number (negsuc 0)) ≡ gives (number (negsuc 0)) least
increment-to_least = refl

decrement-to_least : decremented v above_least (plus 1) ≡ gives (plus 1) least
decrement-to_least = refl

-- ---- a value of another type isn't taken for one: a number isn't its text, and a text not the number that it spells

abbrev no_booleans : List ValueTree
no_booleans = null ∷ plus 0 ∷ text (codes "true") ∷ items [] ∷ fields [] ∷ []

abbrev no_texts : List ValueTree
no_texts = null ∷ boolean true ∷ plus 1 ∷ items [] ∷ fields [] ∷ []

abbrev no_lists : List ValueTree
no_lists = null ∷ boolean true ∷ plus 1 ∷ text (codes "[]") ∷ fields [] ∷ []

abbrev no_objects : List ValueTree
no_objects = null ∷ boolean true ∷ plus 1 ∷ text (codes "{}") ∷ items [] ∷ []

set-others :
    map (set_to v (boolean true)) no_booleans ++ map (set_to v (plus 1)) no_numbers ++ map (set_to v (text [])) no_texts
    ++ map (set_to v (items [])) no_lists ++ map (set_to v (fields [])) no_objects
    ≡ replicate 25 wrong
set-others = refl

abbrev made_with : Sort → ValueTree → Result MadeTree EvalFault
made_with s t = (made_initialize nowhere (record { name = v; sort = s; value = Some (that (literal t)) } ∷ []) 0).0

initialize-others :
    map (made_with Sort.Bool) no_booleans ++ map (made_with Sort.Int) no_numbers ++ map (made_with Sort.Text) no_texts
    ++ map (made_with Sort.List) no_lists ++ map (made_with Sort.Obj) no_objects
    ≡ replicate 25 wrong
initialize-others = refl

-- ---- where neither what is kept nor what is given out fits, what is kept is told

initialize-inputs_first : made_with Sort.List (nested 63) ≡ Err (EvalFault.TooBig 66 101)
initialize-inputs_first = refl

append-inputs_first : with_item v (items []) (nested 64) ≡ Err (EvalFault.TooBig 65 79)
append-inputs_first = refl

-- ---- any value is an item more of a list, and of nothing else

append-each :
    map (with_item v (items (null ∷ []))) (null ∷ boolean false ∷ plus 0 ∷ text [] ∷ items [] ∷ fields [] ∷ [])
    ≡ gives null (items (null ∷ null ∷ []))
    ∷ gives (boolean false) (items (null ∷ boolean false ∷ []))
    ∷ gives (plus 0) (items (null ∷ plus 0 ∷ []))
    ∷ gives (text []) (items (null ∷ text [] ∷ []))
    ∷ gives (items []) (items (null ∷ items [] ∷ []))
    ∷ gives (fields []) (items (null ∷ fields [] ∷ []))
    ∷ []
append-each = refl

append-to_others : map (λ t. with_item v t (plus 1)) (null ∷ boolean true ∷ plus 1 ∷ text [] ∷ fields [] ∷ []) ≡ replicate 5 wrong
append-to_others = refl

-- ---- any value is joined to a text, and to nothing else

join-each :
    map (with_text v (text (codes "a")))
    (null ∷ boolean false ∷ text [] ∷ text (codes "\"") ∷ items [] ∷ fields [] ∷ fields ((codes "k", null) ∷ []) ∷ [])
    ≡ gives null (text (codes "a"))
    ∷ gives (boolean false) (text (codes "afalse"))
    ∷ gives (text []) (text (codes "a"))
    ∷ gives (text (codes "\"")) (text (codes "a\""))
    ∷ gives (items []) (text (codes "a[]"))
    ∷ gives (fields []) (text (codes "a{}"))
    ∷ gives (fields ((codes "k", null) ∷ [])) (text (codes "a{\"k\":null}"))
    ∷ []
join-each = refl

join-to_others : map (λ t. with_text v t (text [])) (null ∷ boolean true ∷ plus 1 ∷ items [] ∷ fields [] ∷ []) ≡ replicate 5 wrong
join-to_others = refl
