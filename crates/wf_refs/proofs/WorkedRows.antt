-- Uses of worked sites, where a reader can work them out: each kind of action, each site.
use Prim.Native.String.{String}
use Rattle.std.proofs.Common.{◌≡◌, ℕ, List, [], ◌∷◌, true, false, Option, Some, None, map, refl}
use Rattle.std.specs.Prelude.{codes}
use Rattle.wf_val.specs.ValueTree as value
use Rattle.wf_template.specs.TemplateTree.{plain, whole}
use Rattle.wf_template.specs.DataTree.{DataTree, null, text, DataMember}
use Rattle.wf_def.specs.Policy.{Policy}
use Rattle.wf_def.specs.ActionTree.{ActionTree, action, action_number, InitialTree, KindTree, compose, connector, wait, response, terminate}
use Rattle.wf_def.specs.ActionTree.{select, query, join, parse_json, initialize, set_to, increment, decrement, append_array, append_string}
use Rattle.wf_def.specs.ActionTree.{scope, branch, switch, switch_else, foreach, until, ActionTrees, no_actions, action_then, action_trees}
use Rattle.wf_def.specs.ActionTree.{CaseTrees, no_cases, case_then}
use Rattle.wf_def.specs.AllActions.{all_actions, numbered}
use Rattle.wf_def.specs.DefTree.{DefTree}
use Rattle.wf_def.specs.declared.sort.Sort.{Sort}
use Rattle.wf_uses.specs.UsesTree.{UsesTree}
use Rattle.wf_refs.proofs.UseWords.{asked, calls, data_of, none, only, test_of, text_of}
use Rattle.wf_refs.specs.Sites.{uses_at_inputs, uses_at_items, uses_at_test, uses_at_tracked, uses_at_trigger, uses_of}
use Rattle.wf_refs.specs.declared.site.Site.{Site}

-- ---- each kind of action; what stands in its graphs is the inner actions' own

abbrev alone : KindTree → ActionTree
alone kind = action (codes "X") 0 [] [] kind []

abbrev inner : ActionTrees
inner = action_then (alone (compose (data_of "Inner"))) no_actions

abbrev cases : CaseTrees
cases = case_then (codes "c") (value.text (codes "outputs('Case')")) inner no_cases

abbrev at_inputs : KindTree → UsesTree
at_inputs kind = uses_at_inputs (alone kind)

abbrev plainly : String → UsesTree
plainly k = record none { names = only k }

abbrev initial : String → Option DataTree → InitialTree
initial name value = record { name = codes name; sort = Sort.Text; value = value }

in_compose : at_inputs (compose (data_of "A")) ≡ plainly "A"
in_compose = refl

in_connector : at_inputs (connector (data_of "A") Policy.Standard) ≡ plainly "A"
in_connector = refl

in_wait : at_inputs (wait (data_of "A")) ≡ plainly "A"
in_wait = refl

in_response : at_inputs (response (data_of "A")) ≡ plainly "A"
in_response = refl

in_terminate : at_inputs (terminate (data_of "A")) ≡ plainly "A"
in_terminate = refl

in_select : at_inputs (select (data_of "From") (data_of "Item")) ≡ plainly "From"
in_select = refl

in_query : at_inputs (query (data_of "From") (text_of "Item")) ≡ plainly "From"
in_query = refl

in_join : at_inputs (join (data_of "B") (data_of "A")) ≡ record none { names = codes "A" ∷ codes "B" ∷ [] }
in_join = refl

in_parse_json : at_inputs (parse_json (data_of "A") None) ≡ plainly "A"
in_parse_json = refl

-- a variable is initialised or written, and not read by that
in_initialize : at_inputs (initialize (initial "v" (Some (data_of "A")) ∷ [])) ≡ record none { names = only "A"; writes = only "v" }
in_initialize = refl

in_two : at_inputs (initialize (initial "w" (Some (data_of "A")) ∷ initial "v" None ∷ initial "w" (Some (data_of "B")) ∷ []))
    ≡ record none { names = codes "A" ∷ codes "B" ∷ []; writes = codes "v" ∷ codes "w" ∷ [] }
in_two = refl

in_set : at_inputs (set_to (codes "v") (data_of "A")) ≡ record none { names = only "A"; writes = only "v" }
in_set = refl

in_increment : at_inputs (increment (codes "v") (Some (data_of "A"))) ≡ record none { names = only "A"; writes = only "v" }
in_increment = refl

in_increment_by_one : at_inputs (increment (codes "v") None) ≡ record none { writes = only "v" }
in_increment_by_one = refl

in_decrement : at_inputs (decrement (codes "v") (Some (data_of "A"))) ≡ record none { names = only "A"; writes = only "v" }
in_decrement = refl

in_append_array : at_inputs (append_array (codes "v") (data_of "A")) ≡ record none { names = only "A"; writes = only "v" }
in_append_array = refl

in_append_string : at_inputs (append_string (codes "v") (data_of "A")) ≡ record none { names = only "A"; writes = only "v" }
in_append_string = refl

-- what a variable is set to may read it
read_and_written : at_inputs (set_to (codes "v") (text (whole (asked "variables" "v"))))
    ≡ record none { reads = only "v"; writes = only "v" }
read_and_written = refl

in_scope : at_inputs (scope inner) ≡ none
in_scope = refl

in_if : at_inputs (branch (test_of "A") inner inner) ≡ plainly "A"
in_if = refl

in_switch : at_inputs (switch (text_of "A") cases) ≡ plainly "A"
in_switch = refl

in_switch_else : at_inputs (switch_else (text_of "A") cases inner) ≡ plainly "A"
in_switch_else = refl

in_foreach : at_inputs (foreach (data_of "A") 1 inner) ≡ plainly "A"
in_foreach = refl

in_until : at_inputs (until (test_of "A") 60 false inner) ≡ none
in_until = refl

-- what is asked of each item

items_select : uses_at_items (alone (select (data_of "From") (data_of "Item"))) ≡ Some (plainly "Item")
items_select = refl

items_query : uses_at_items (alone (query (data_of "From") (text_of "Item"))) ≡ Some (plainly "Item")
items_query = refl

-- the site is there though nothing is asked for
items_nothing : uses_at_items (alone (select null null)) ≡ Some none
items_nothing = refl

-- no other kind has items
abbrev others : List KindTree
others =
    compose null ∷ connector null Policy.Never ∷ wait null ∷ response null ∷ terminate null ∷ join null null ∷ parse_json null None
    ∷ initialize [] ∷ set_to [] null ∷ increment [] None ∷ decrement [] None ∷ append_array [] null ∷ append_string [] null
    ∷ scope inner ∷ branch (test_of "A") inner inner ∷ switch (text_of "A") cases ∷ switch_else (text_of "A") cases inner
    ∷ foreach (data_of "A") 1 inner ∷ []

items_of_others : map (λ k. uses_at_items (alone k)) (until (test_of "A") 60 false inner ∷ others)
    ≡ map (λ k. None) (until (test_of "A") 60 false inner ∷ others)
items_of_others = refl

-- and only an Until has a test

test_until : uses_at_test (alone (until (test_of "A") 60 false inner)) ≡ Some (plainly "A")
test_until = refl

test_of_others : map (λ k. uses_at_test (alone k)) (select null null ∷ query null (plain []) ∷ others)
    ≡ map (λ k. None) (select null null ∷ query null (plain []) ∷ others)
test_of_others = refl

-- tracked properties, which write nothing

abbrev tracking : List DataMember → ActionTree
tracking tracked = action (codes "X") 0 [] [] (set_to (codes "v") (data_of "A")) tracked

tracked_none : uses_at_tracked (tracking []) ≡ none
tracked_none = refl

tracked_two : uses_at_tracked (tracking ((codes "b", text (whole (calls "action" []))) ∷ (codes "a", data_of "B") ∷ []))
    ≡ record none { names = only "B"; own = true }
tracked_two = refl

not_tracked : uses_at_inputs (tracking ((codes "b", data_of "B") ∷ [])) ≡ record none { names = only "A"; writes = only "v" }
not_tracked = refl

-- triggers

trigger_nothing : uses_at_trigger (record { name = codes "t"; split = None; conditions = [] }) ≡ none
trigger_nothing = refl

trigger_both : uses_at_trigger
    (record { name = codes "t"; split = Some (text_of "S"); conditions = text_of "B" ∷ whole (calls "utcNow" []) ∷ text_of "A" ∷ [] })
    ≡ record none { names = codes "A" ∷ codes "B" ∷ codes "S" ∷ []; moment = true }
trigger_both = refl

-- ---- a whole definition: L (a Foreach, number 2) holds an If (1) of C (0) and otherwise of D (4); behind it is M (3), a Select

abbrev numbers : String → ℕ → KindTree → ActionTree
numbers s n kind = action (codes s) n [] [] kind ((codes "t", data_of s) ∷ [])

abbrev graph : ActionTrees
graph = action_trees (
    numbers "L" 2 (foreach (data_of "List") 1 (action_trees (
    numbers "K" 1 (branch (test_of "Test")
    (action_trees (numbers "C" 0 (compose (data_of "Yes")) ∷ []))
    (action_trees (numbers "D" 4 (until (test_of "Again") 60 false no_actions) ∷ []))) ∷ [])))
    ∷ numbers "M" 3 (select (data_of "From") (data_of "Item")) ∷ [])

abbrev whole_one : DefTree
whole_one = record {
  digest = [];
  parameters = [];
  given = [];
  triggers = record { name = codes "t"; split = Some (text_of "T"); conditions = [] } ∷ [];
  top = graph;
  outputs = record { name = codes "a"; value = data_of "O" } ∷ record { name = codes "b"; value = data_of "P" } ∷ [];
}

the_actions : map action_number (all_actions graph) ≡ 2 ∷ 1 ∷ 0 ∷ 4 ∷ 3 ∷ []
the_actions = refl

inputs_of_foreach : uses_of whole_one (Site.Inputs 2) ≡ Some (plainly "List")
inputs_of_foreach = refl

inputs_of_if : uses_of whole_one (Site.Inputs 1) ≡ Some (plainly "Test")
inputs_of_if = refl

inputs_inside : uses_of whole_one (Site.Inputs 0) ≡ Some (plainly "Yes")
inputs_inside = refl

inputs_of_until : uses_of whole_one (Site.Inputs 4) ≡ Some none
inputs_of_until = refl

inputs_of_select : uses_of whole_one (Site.Inputs 3) ≡ Some (plainly "From")
inputs_of_select = refl

inputs_of_no_action : uses_of whole_one (Site.Inputs 5) ≡ None
inputs_of_no_action = refl

items_of_select : uses_of whole_one (Site.Items 3) ≡ Some (plainly "Item")
items_of_select = refl

items_of_compose : uses_of whole_one (Site.Items 0) ≡ None
items_of_compose = refl

items_of_no_action : uses_of whole_one (Site.Items 5) ≡ None
items_of_no_action = refl

test_in_a_branch : uses_of whole_one (Site.Test 4) ≡ Some (plainly "Again")
test_in_a_branch = refl

test_of_foreach : uses_of whole_one (Site.Test 2) ≡ None
test_of_foreach = refl

tracked_in_a_branch : uses_of whole_one (Site.Tracked 4) ≡ Some (plainly "D")
tracked_in_a_branch = refl

tracked_of_no_action : uses_of whole_one (Site.Tracked 5) ≡ None
tracked_of_no_action = refl

first_output : uses_of whole_one (Site.Outputs 0) ≡ Some (plainly "O")
first_output = refl

second_output : uses_of whole_one (Site.Outputs 1) ≡ Some (plainly "P")
second_output = refl

no_output : uses_of whole_one (Site.Outputs 2) ≡ None
no_output = refl

first_trigger : uses_of whole_one (Site.Trigger 0) ≡ Some (plainly "T")
first_trigger = refl

no_trigger : uses_of whole_one (Site.Trigger 1) ≡ None
no_trigger = refl

-- of two actions of one number, which no definition that was read has, the first
first_of_two : numbered 0 (action_trees (numbers "A" 0 (compose null) ∷ numbers "B" 0 (compose null) ∷ []))
    ≡ Some (numbers "A" 0 (compose null))
first_of_two = refl
