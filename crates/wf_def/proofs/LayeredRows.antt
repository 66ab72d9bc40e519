-- Worked graphs, and what they are to the laws of order.
use Prim.Native.String.{String}
use Rattle.std.proofs.Common.{◌≡◌, ℕ, List, [], ◌∷◌, Bool, true, false, Option, Some, None, refl}
use Rattle.std.specs.Prelude.{codes}
use Rattle.wf_val.specs.ValueTree as value
use Rattle.wf_template.specs.TemplateTree.{plain}
use Rattle.wf_template.specs.DataTree.{null}
use Rattle.wf_template.specs.CondTree.{CondTree, holds}
use Rattle.wf_retry.specs.declared.policy.Policy.{Policy}
use Rattle.wf_layers.specs.Definition as layers
use Rattle.wf_def.specs.ActionTree.{ActionTree, action, KindTree, compose, connector, wait, response, terminate, select, query, join, parse_json, initialize, set_to, increment, decrement, append_array, append_string, scope, branch, switch, switch_else, foreach, until, ActionTrees, no_actions, action_then, action_trees, CaseTrees, no_cases, case_then}
use Rattle.wf_def.specs.Layered.{layered, layered_kind}
use Rattle.wf_def.specs.Names.{find_in, graph_names}
use Rattle.wf_def.specs.declared.after.After.{After}
use Rattle.wf_def.specs.declared.after.Statuses.{Statuses}

-- an action of a name, a number and a kind, that waits for nothing
abbrev named : String → ℕ → KindTree → ActionTree
named s n kind = action (codes s) n [] [] kind []

abbrev leaf : ℕ → ActionTree
leaf n = named "L" n (compose null)

-- a graph of one action, and what it is
abbrev one : ℕ → ActionTrees
one n = action_then (leaf n) no_actions

abbrev layered_one : ℕ → layers.Graph
layered_one n = layers.add n [] layers.Leaf layers.done

abbrev always : CondTree
always = holds (plain [])

-- entries of `runAfter`
abbrev waits : ℕ → Bool → Bool → Bool → Bool → After
waits n succeeded failed skipped timed_out = record {
  name = [];
  number = n;
  statuses = record { succeeded = succeeded; failed = failed; skipped = skipped; timed_out = timed_out };
}

abbrev need : ℕ → List layers.Status → layers.Need
need n listed = record { name = n; listed = listed }

-- leaves in a row, of which the last waits for the first by each single status, for the second by all, and for the third by none
no_graph : layered no_actions ≡ layers.done
no_graph = refl

in_a_row : layered (action_then (leaf 7) (one 2)) ≡ layers.add 7 [] layers.Leaf (layers.add 2 [] layers.Leaf layers.done)
in_a_row = refl

statuses : layered (action_then (action [] 4 [] (waits 0 true false false false ∷ waits 1 false true false false
    ∷ waits 2 false false true false ∷ waits 3 false false false true
    ∷ waits 5 true true true true ∷ waits 6 false false false false ∷ []) (compose null) []) no_actions)
    ≡ layers.add 4 (need 0 (layers.Succeeded ∷ []) ∷ need 1 (layers.Failed ∷ []) ∷ need 2 (layers.Skipped ∷ [])
    ∷ need 3 (layers.TimedOut ∷ [])
    ∷ need 5 (layers.Succeeded ∷ layers.Failed ∷ layers.Skipped ∷ layers.TimedOut ∷ []) ∷ need 6 [] ∷ []) layers.Leaf layers.done
statuses = refl

-- what holds no graph is a leaf
abbrev leaves : List KindTree
leaves = compose null ∷ connector null Policy.Never ∷ wait null ∷ response null ∷ terminate null
    ∷ select null null ∷ query null (plain []) ∷ join null null ∷ parse_json null None
    ∷ initialize [] ∷ set_to [] null ∷ increment [] None ∷ decrement [] (Some null) ∷ append_array [] null ∷ append_string [] null ∷ []

abbrev kinds_of : List KindTree → List layers.Kind
kinds_of [] = []
kinds_of (k ∷ ks) = layered_kind k ∷ kinds_of ks

abbrev all_leaves : List KindTree → List layers.Kind
all_leaves [] = []
all_leaves (k ∷ ks) = layers.Leaf ∷ all_leaves ks

leaf_kinds : kinds_of leaves ≡ all_leaves leaves
leaf_kinds = refl

-- containers
scopes : layered_kind (scope (one 1)) ≡ layers.Scope (layered_one 1)
scopes = refl

-- the branch of a condition that holds is the first
choices : layered_kind (branch always (one 1) (one 2))
    ≡ layers.Choice (layers.branch (layered_one 1) (layers.branch (layered_one 2) layers.no_branch))
choices = refl

-- the default comes last, and is an empty graph where there is none
cases : layered_kind (switch (plain []) (case_then (codes "a") (value.text []) (one 3)
    (case_then (codes "b") (value.text []) (one 1) no_cases)))
    ≡ layers.Choice (layers.branch (layered_one 3) (layers.branch (layered_one 1) (layers.branch layers.done layers.no_branch)))
cases = refl

default : layered_kind (switch_else (plain []) (case_then (codes "a") (value.text []) (one 3) no_cases) (one 0))
    ≡ layers.Choice (layers.branch (layered_one 3) (layers.branch (layered_one 0) layers.no_branch))
default = refl

only_default : layered_kind (switch_else (plain []) no_cases (one 0)) ≡ layers.Choice (layers.branch (layered_one 0) layers.no_branch)
only_default = refl

-- loops
one_at_a_time : layered_kind (foreach null 1 (one 1)) ≡ layers.Foreach layers.InTurn (layered_one 1)
one_at_a_time = refl

side_by_side : layered_kind (foreach null 2 (one 1)) ≡ layers.Foreach (layers.AtMost 2) (layered_one 1)
side_by_side = refl

many : layered_kind (foreach null 50 (one 1)) ≡ layers.Foreach (layers.AtMost 50) (layered_one 1)
many = refl

until_count : layered_kind (until always 60 true (one 1)) ≡ layers.Until 60 (layered_one 1)
until_count = refl

-- graphs in graphs
abbrev deep : ActionTrees
deep = action_trees (named "S" 3 (scope (action_trees (named "I" 1
    (branch always (action_then (named "Y" 5 (compose null)) no_actions) (action_then (named "N" 2 (wait null)) no_actions)) ∷ [])))
    ∷ named "T" 4 (foreach null 1 (action_then (named "A" 0 (compose null)) no_actions)) ∷ [])

in_depth : layered deep ≡ layers.add 3 []
    (layers.Scope (layers.add 1 []
    (layers.Choice (layers.branch (layered_one 5) (layers.branch (layered_one 2) layers.no_branch))) layers.done))
    (layers.add 4 [] (layers.Foreach layers.InTurn (layered_one 0)) layers.done)
in_depth = refl

-- an action stands before those inside it, and these before the next
names_in_depth : graph_names deep ≡ codes "S" ∷ codes "I" ∷ codes "Y" ∷ codes "N" ∷ codes "T" ∷ codes "A" ∷ []
names_in_depth = refl

abbrev number_found : Option ActionTree → Option ℕ
number_found None = None
number_found (Some (action name number pointer after kind tracked)) = Some number

abbrev found : String → Option ℕ
found s = number_found (find_in (codes s) deep)

found_at_the_top : found "S" ≡ Some 3
found_at_the_top = refl

found_in_a_branch : found "N" ≡ Some 2
found_in_a_branch = refl

found_in_a_loop : found "A" ≡ Some 0
found_in_a_loop = refl

found_by_its_whole_name : found "a" ≡ None
found_by_its_whole_name = refl
