-- InitializeVariable at worked values: each fault with its function and place, and which of two faults comes first.
use Rattle.std.proofs.Common.{◌≡◌, refl, ℕ, List, [], ◌∷◌, map, false, Option, Some, None}
use Rattle.std.specs.Prelude.{pos, codes}
use Rattle.wf_val.specs.ValueTree.{ValueTree, boolean, text}
use Rattle.wf_val.specs.declared.fault.EvalFault.{EvalFault}
use Rattle.wf_val.specs.declared.function.Fun.{Fun}
use Rattle.wf_template.specs.DataTree as inputs
use Rattle.wf_template.specs.ExprTree.{literal}
use Rattle.wf_data.proofs.WorkedLook.{nested, nowhere, only}
use Rattle.wf_data.specs.Told.{Told}
use Rattle.wf_data.proofs.WorkedExpressions.{int, word, by_zero, of}
use Rattle.wf_def.specs.ActionTree.{InitialTree}
use Rattle.wf_def.specs.declared.sort.Sort.{Sort}
use Rattle.wf_data.specs.Made.{one_member}
use Rattle.wf_data.proofs.RowParts.{plus, items, fields, that, random, Outcome, makes, faults}
use Rattle.wf_variables.specs.Initials.{given_item, made_initialize}

abbrev initial : List ℕ → Sort → Option inputs.DataTree → InitialTree
initial k s t = record { name = k; sort = s; value = t }

abbrev kept : List ℕ → List ℕ → ValueTree → ValueTree
kept k s t = fields ((codes "name", text k) ∷ (codes "type", text s) ∷ (codes "value", t) ∷ [])

-- the variables that are kept, and the body that is given out
abbrev gives : List ValueTree → ValueTree → Outcome
gives ts t = makes (one_member (codes "variables") (items ts)) (one_member (codes "body") t)

abbrev wrong : Outcome
wrong = faults (EvalFault.WrongType Fun.Variable 1)

-- ---- what is made

-- one is given out by itself, also where its value is a list
initialize-one :
    made_initialize nowhere (initial (codes "a") Sort.Int (Some (that (int 1))) ∷ []) 7
    ≡ gives (kept (codes "a") (codes "integer") (plus 1) ∷ []) (given_item (codes "a") (plus 1))
initialize-one = refl

initialize-list :
    made_initialize nowhere (initial (codes "a") Sort.List None ∷ []) 7
    ≡ gives (kept (codes "a") (codes "array") (items []) ∷ []) (given_item (codes "a") (items []))
initialize-list = refl

-- several as their list, in their order
initialize-two :
    made_initialize nowhere (initial (codes "a") Sort.Int (Some (inputs.number (pos 1))) ∷ initial (codes "b") Sort.Text None ∷ []) 7
    ≡ gives (kept (codes "a") (codes "integer") (plus 1) ∷ kept (codes "b") (codes "string") (text []) ∷ [])
    (items (given_item (codes "a") (plus 1) ∷ given_item (codes "b") (text []) ∷ []))
initialize-two = refl

initialize-three :
    made_initialize nowhere
    (initial (codes "c") Sort.Bool None ∷ initial (codes "b") Sort.Obj None ∷ initial (codes "a") Sort.Int None ∷ []) 7
    ≡ gives
    (kept (codes "c") (codes "boolean") (boolean false) ∷ kept (codes "b") (codes "object") (fields [])
    ∷ kept (codes "a") (codes "integer") (plus 0) ∷ [])
    (items (given_item (codes "c") (boolean false) ∷ given_item (codes "b") (fields []) ∷ given_item (codes "a") (plus 0) ∷ []))
initialize-three = refl

initialize-words :
    (made_initialize nowhere
    (initial (codes "a") Sort.Int (Some (that random)) ∷ initial (codes "b") Sort.Int (Some (that random)) ∷ []) 7).1 ≡ 9
initialize-words = refl

-- ---- what a value sees: the variables as they stand before the action

abbrev reading : List ℕ → inputs.DataTree
reading k = that (of (codes "variables") (word k ∷ []))

initialize-not_yet :
    made_initialize nowhere
    (initial (codes "a") Sort.Int (Some (inputs.number (pos 1))) ∷ initial (codes "b") Sort.Int (Some (reading (codes "a"))) ∷ []) 7
    ≡ faults (EvalFault.NoValue (codes "a"))
initialize-not_yet = refl

abbrev before : Told
before = record nowhere { variable = only (codes "a") (plus 5) }

initialize-before :
    made_initialize before
    (initial (codes "a") Sort.Int (Some (inputs.number (pos 1))) ∷ initial (codes "b") Sort.Int (Some (reading (codes "a"))) ∷ []) 7
    ≡ gives (kept (codes "a") (codes "integer") (plus 1) ∷ kept (codes "b") (codes "integer") (plus 5) ∷ [])
    (items (given_item (codes "a") (plus 1) ∷ given_item (codes "b") (plus 5) ∷ []))
initialize-before = refl

-- ---- faults

initialize-other_type : made_initialize nowhere (initial (codes "a") Sort.Int (Some (that (word (codes "1")))) ∷ []) 7 ≡ wrong
initialize-other_type = refl

-- null is no value of any type, and not as if none were given
initialize-null :
    map (λ s. made_initialize nowhere (initial (codes "a") s (Some inputs.null) ∷ []) 7)
    (Sort.Bool ∷ Sort.Int ∷ Sort.Text ∷ Sort.List ∷ Sort.Obj ∷ [])
    ≡ wrong ∷ wrong ∷ wrong ∷ wrong ∷ wrong ∷ []
initialize-null = refl

initialize-fault : made_initialize nowhere (initial (codes "a") Sort.Bool (Some (that by_zero)) ∷ []) 7 ≡ faults (EvalFault.Range Fun.Div)
initialize-fault = refl

-- a value is judged before the next is evaluated
initialize-judged :
    made_initialize nowhere
    (initial (codes "a") Sort.Bool (Some inputs.null) ∷ initial (codes "b") Sort.Int (Some (that by_zero)) ∷ []) 7
    ≡ wrong
initialize-judged = refl

initialize-second :
    made_initialize nowhere (initial (codes "a") Sort.Bool None ∷ initial (codes "b") Sort.Int (Some (that by_zero)) ∷ []) 7
    ≡ faults (EvalFault.Range Fun.Div)
initialize-second = refl

-- what is kept is one object deeper than what is given out of one variable; that is measured once all values are there
initialize-deepest :
    made_initialize nowhere (initial (codes "a") Sort.List (Some (that (literal (nested 61)))) ∷ []) 7
    ≡ gives (kept (codes "a") (codes "array") (nested 61) ∷ []) (given_item (codes "a") (nested 61))
initialize-deepest = refl

initialize-too_big :
    made_initialize nowhere (initial (codes "a") Sort.List (Some (that (literal (nested 62)))) ∷ []) 7 ≡ faults (EvalFault.TooBig 65 100)
initialize-too_big = refl

initialize-fault_first :
    made_initialize nowhere
    (initial (codes "a") Sort.List (Some (that (literal (nested 62)))) ∷ initial (codes "b") Sort.Int (Some inputs.null) ∷ []) 7
    ≡ wrong
initialize-fault_first = refl
