-- What each kind of action does as it starts, at worked values.
use Rattle.std.proofs.Common.{◌≡◌, refl, ℕ, List, [], ◌∷◌, Option, Some, None}
use Rattle.std.specs.Prelude.{pos, codes}
use Rattle.wf_val.specs.ValueTree.{ValueTree, null, text}
use Rattle.wf_retry.specs.declared.policy.Policy.{Policy}
use Rattle.wf_connect.specs.Status.{Status}
use Rattle.wf_template.specs.DataTree as inputs
use Rattle.wf_template.specs.ExprTree.{literal}
use Rattle.wf_template.specs.TemplateTree.{whole}
use Rattle.wf_variables.proofs.WorkedLook.{nested, nowhere, one_member}
use Rattle.wf_variables.proofs.WorkedExpressions.{int, word, by_zero, of}
use Rattle.wf_def.specs.ActionTree.{compose, connector, wait, response, terminate, select, query, join, parse_json}
use Rattle.wf_def.specs.ActionTree.{initialize, set_to, increment, decrement, append_array, append_string, scope, no_actions}
use Rattle.wf_def.specs.declared.sort.Sort.{Sort}
use Rattle.wf_variables.proofs.RowParts.{plus, items, fields, that, listed, tree_fields, tree_items, item}
use Rattle.wf_variables.specs.Initials.{given_item}
use Rattle.wf_done.specs.Leaf.{BegunTree, acted, calling, begun, judged}
use Rattle.wf_done.proofs.RowParts.{acts, done, done_well, faults, having, in_decimal}

abbrev v : List ℕ
v = codes "v"

abbrev with_body : ValueTree → ValueTree
with_body t = one_member (codes "body") t

-- what a change of a variable keeps and gives out
abbrev changes : ValueTree → ValueTree → BegunTree
changes given new = acts (given_item (codes "v") given) (with_body (given_item (codes "v") new))

-- ---- data

begun-compose : begun nowhere (compose (inputs.number (pos 1))) ≡ acts (plus 1) (plus 1)
begun-compose = refl

begun-fault : begun nowhere (compose (that by_zero)) ≡ faults (codes "Range div")
begun-fault = refl

begun-too_deep : begun nowhere (compose (tree_items (that (literal (nested 64)) ∷ []))) ≡ faults (codes "TooBig 65 66")
unfolding in_decimal
begun-too_deep = refl

begun-wait : begun nowhere (wait (tree_fields [])) ≡ acts (fields []) null
begun-wait = refl

begun-response : begun nowhere (response (inputs.number (pos 1))) ≡ acts (plus 1) (plus 1)
begun-response = refl

begun-terminate :
    begun nowhere (terminate (that (literal (one_member (codes "runStatus") (text (codes "Failed"))))))
    ≡ acts (one_member (codes "runStatus") (text (codes "Failed"))) null
begun-terminate = refl

begun-terminate_as_skipped :
    begun nowhere (terminate (that (literal (one_member (codes "runStatus") (text (codes "Skipped"))))))
    ≡ faults (codes "WrongType terminate 1")
unfolding in_decimal
begun-terminate_as_skipped = refl

abbrev one_two : ValueTree
one_two = items (plus 1 ∷ plus 2 ∷ [])

begun-select :
    begun nowhere (select (listed (plus 1 ∷ plus 2 ∷ [])) (tree_items (that item ∷ [])))
    ≡ acts (one_member (codes "from") one_two) (with_body (items (items (plus 1 ∷ []) ∷ items (plus 2 ∷ []) ∷ [])))
begun-select = refl

begun-query :
    begun nowhere (query (listed (plus 1 ∷ plus 2 ∷ [])) (whole (of (codes "equals") (item ∷ int 2 ∷ []))))
    ≡ acts (one_member (codes "from") one_two) (with_body (items (plus 2 ∷ [])))
begun-query = refl

begun-join :
    begun nowhere (join (listed (text (codes "a") ∷ text (codes "b") ∷ [])) (that (word (codes ", "))))
    ≡ acts (fields ((codes "from", items (text (codes "a") ∷ text (codes "b") ∷ [])) ∷ (codes "joinWith", text (codes ", ")) ∷ []))
    (with_body (text (codes "a, b")))
begun-join = refl

-- ---- ParseJson and its schema

abbrev typed : List ℕ → Option ValueTree
typed s = Some (one_member (codes "type") (text s))

abbrev mismatches : ValueTree → List ℕ → BegunTree
mismatches t s = acted (done Status.Failed (codes "SchemaMismatch") (one_member (codes "content") t) null (text s))

parse-any : begun nowhere (parse_json (that (int 5)) None) ≡ acts (one_member (codes "content") (plus 5)) (with_body (plus 5))
parse-any = refl

parse-as_asked :
    begun nowhere (parse_json (that (int 5)) (typed (codes "integer"))) ≡ acts (one_member (codes "content") (plus 5)) (with_body (plus 5))
parse-as_asked = refl

parse-mismatch : begun nowhere (parse_json (that (int 5)) (typed (codes "string"))) ≡ mismatches (plus 5) (codes "Schema \"\"")
parse-mismatch = refl

-- null is judged as any other value
parse-null : begun nowhere (parse_json inputs.null (typed (codes "null"))) ≡ acts (one_member (codes "content") null) (with_body null)
parse-null = refl

parse-null_mismatch : begun nowhere (parse_json inputs.null (typed (codes "object"))) ≡ mismatches null (codes "Schema \"\"")
parse-null_mismatch = refl

-- the value is judged, and not the body that has it
parse-object :
    begun nowhere (parse_json (that (literal (with_body (plus 1)))) (typed (codes "object")))
    ≡ acts (one_member (codes "content") (with_body (plus 1))) (with_body (with_body (plus 1)))
parse-object = refl

-- of two places the least
abbrev two_properties : ValueTree
two_properties = one_member (codes "properties") (fields (
    (codes "a/b", one_member (codes "type") (text (codes "string"))) ∷ (codes "c", one_member (codes "type") (text (codes "null"))) ∷ []))

parse-least :
    begun nowhere (parse_json (that (literal (fields ((codes "a/b", plus 1) ∷ (codes "c", plus 2) ∷ [])))) (Some two_properties))
    ≡ mismatches (fields ((codes "a/b", plus 1) ∷ (codes "c", plus 2) ∷ [])) (codes "Schema \"/a~1b\"")
parse-least = refl

-- the schema comes last: behind a fault of the content, and behind what doesn't fit
parse-fault : begun nowhere (parse_json (that by_zero) (typed (codes "string"))) ≡ faults (codes "Range div")
parse-fault = refl

parse-too_deep : begun nowhere (parse_json (that (literal (nested 64))) (typed (codes "string"))) ≡ faults (codes "TooBig 65 74")
unfolding in_decimal
parse-too_deep = refl

judged-none : judged None (record { inputs = plus 1; outputs = with_body null }) ≡ done_well (plus 1) (with_body null)
judged-none = refl

-- no other kind has its outputs judged
compose-unjudged : begun nowhere (compose (that (literal (with_body (plus 1))))) ≡ acts (with_body (plus 1)) (with_body (plus 1))
compose-unjudged = refl

-- ---- variables

begun-initialize :
    begun nowhere (initialize (record { name = codes "v"; sort = Sort.Int; value = Some (that (int 1)) } ∷ []))
    ≡ acts (one_member (codes "variables") (items (
    fields ((codes "name", text (codes "v")) ∷ (codes "type", text (codes "integer")) ∷ (codes "value", plus 1) ∷ []) ∷ [])))
    (with_body (given_item (codes "v") (plus 1)))
begun-initialize = refl

begun-set : begun (having (plus 5)) (set_to v (that (int 2))) ≡ changes (plus 2) (plus 2)
begun-set = refl

begun-set_without : begun nowhere (set_to v (that (int 2))) ≡ faults (codes "NoValue \"v\"")
begun-set_without = refl

begun-increment : begun (having (plus 5)) (increment v (Some (that (int 2)))) ≡ changes (plus 2) (plus 7)
begun-increment = refl

begun-increment_by_one : begun (having (plus 5)) (increment v None) ≡ changes (plus 1) (plus 6)
begun-increment_by_one = refl

begun-decrement : begun (having (plus 5)) (decrement v (Some (that (int 2)))) ≡ changes (plus 2) (plus 3)
begun-decrement = refl

begun-append_array :
    begun (having (items (null ∷ []))) (append_array v (that (int 2))) ≡ changes (plus 2) (items (null ∷ plus 2 ∷ []))
begun-append_array = refl

begun-append_string :
    begun (having (text (codes "x"))) (append_string v (that (word (codes "y")))) ≡ changes (text (codes "y")) (text (codes "xy"))
begun-append_string = refl

-- ---- connectors

begun-connector : begun nowhere (connector (tree_fields []) Policy.Standard) ≡ calling (fields []) Policy.Standard
begun-connector = refl

begun-connector_never : begun nowhere (connector (that (int 1)) Policy.Never) ≡ calling (plus 1) Policy.Never
begun-connector_never = refl

begun-connector_counted : begun nowhere (connector inputs.null (Policy.Count 3)) ≡ calling null (Policy.Count 3)
begun-connector_counted = refl

begun-connector_fault : begun nowhere (connector (that by_zero) Policy.Standard) ≡ faults (codes "Range div")
begun-connector_fault = refl

begun-connector_too_deep :
    begun nowhere (connector (tree_items (that (literal (nested 64)) ∷ [])) Policy.Standard) ≡ faults (codes "TooBig 65 66")
unfolding in_decimal
begun-connector_too_deep = refl

-- ---- containers make nothing

begun-scope : begun nowhere (scope no_actions) ≡ faults (codes "NoValue \"\"")
begun-scope = refl
