-- Words for the rows of worked definitions.
use Prim.Native.String.{String}
use Rattle.std.specs.Prelude.{ℕ, List, [], ◌∷◌, ◌++◌, map, true, false, Option, Some, None, codes, pos}
use Rattle.wf_val.specs.ValueTree as value
use Rattle.wf_template.specs.ExprTree.{ExprTree, literal, call, expr_trees}
use Rattle.wf_template.specs.TemplateTree.{whole, plain}
use Rattle.wf_template.specs.DataTree.{DataTree, null, number, text, list, data_trees}
use Rattle.wf_template.specs.CondTree.{CondTree, holds}
use Rattle.wf_retry.specs.declared.policy.Policy.{Policy}
use Rattle.wf_varorder.specs.ActionTree.{ActionTree, action, InitialTree, KindTree, compose, connector}
use Rattle.wf_varorder.specs.ActionTree.{wait, response, terminate, select, query}
use Rattle.wf_varorder.specs.ActionTree.{join, parse_json, initialize, scope, branch, switch, switch_else, foreach, until, action_trees}
use Rattle.wf_varorder.specs.ActionTree.{no_actions, no_cases}
use Rattle.wf_varorder.specs.DefTree.{DefTree, OutputTree, TriggerTree}
use Rattle.wf_varorder.specs.After.{After}
use Rattle.wf_varorder.specs.Sort.{Sort}
use Rattle.wf_varorder.specs.RuleFault.{RuleFault}
use Rattle.wf_rules.specs.Broken.{broken_of}

-- a call without arguments, and one with a name
abbrev pub asks : String → ExprTree
asks f = call (codes f) (expr_trees [])

abbrev pub asked : String → String → ExprTree
asked f k = call (codes f) (expr_trees (literal (value.text (codes k)) ∷ []))

-- one call of two others
abbrev pub both : ExprTree → ExprTree → ExprTree
both e f = call (codes "concat") (expr_trees (e ∷ f ∷ []))

abbrev pub data_of : ExprTree → DataTree
data_of e = text (whole e)

abbrev pub composes : ExprTree → KindTree
composes e = compose (data_of e)

abbrev pub one : KindTree
one = compose (number (pos 1))

abbrev pub truth : ExprTree → CondTree
truth e = holds (whole e)

abbrev pub yes : CondTree
yes = holds (plain (codes "true"))

-- waits for the action of a number
abbrev pub after : ℕ → List After
after n = record { name = []; number = n; statuses = record { succeeded = true; failed = false; skipped = false; timed_out = false } } ∷ []

-- an action of a name and a number at a pointer
abbrev pub at : String → ℕ → String → List After → KindTree → ActionTree
at name n pointer waits kind = action (codes name) n (codes pointer) waits kind []

-- with tracked properties
abbrev pub tracking : String → ℕ → String → List After → KindTree → ExprTree → ActionTree
tracking name n pointer waits kind e = action (codes name) n (codes pointer) waits kind ((codes "p", data_of e) ∷ [])

abbrev pub in_scope : List ActionTree → KindTree
in_scope as' = scope (action_trees as')

abbrev pub each : DataTree → List ActionTree → KindTree
each items as' = foreach items 20 (action_trees as')

abbrev pub some : DataTree
some = list (data_trees (number (pos 1) ∷ []))

abbrev pub turns : CondTree → List ActionTree → KindTree
turns test as' = until test 60 false (action_trees as')

-- a definition with these actions
abbrev pub of : List ActionTree → DefTree
of as' = record { digest = []; parameters = []; given = []; triggers = []; top = action_trees as'; outputs = [] }

abbrev pub output : ExprTree → List OutputTree
output e = record { name = codes "o"; value = data_of e } ∷ []

abbrev pub trigger : ExprTree → List TriggerTree
trigger e = record { name = codes "t"; split = Some (whole e); conditions = [] } ∷ []

abbrev pub fault : ℕ → String → Option RuleFault
fault n pointer = Some (RuleFault.Rule n (codes pointer))

-- a variable is initialised, and read
abbrev pub variable : String → InitialTree
variable s = record { name = codes s; sort = Sort.List; value = None }

abbrev pub init : Sort → KindTree
init sort = initialize (record { name = codes "v"; sort = sort; value = None } ∷ [])

abbrev pub reads : KindTree
reads = composes (asked "variables" "v")

-- ---- an action A at whose places an expression stands, one after the other

-- a variable w of this value
abbrev pub set_first : ExprTree → KindTree
set_first e = initialize (record { name = codes "w"; sort = Sort.List; value = Some (data_of e) } ∷ [])

-- at the inputs, the condition, the expression or the list
abbrev pub at_inputs : ExprTree → List KindTree
at_inputs e =
    composes e ∷ connector (data_of e) Policy.Never ∷ wait (data_of e) ∷ response (data_of e) ∷ terminate (data_of e)
    ∷ select (data_of e) null ∷ query (data_of e) (plain []) ∷ join (data_of e) null ∷ join null (data_of e)
    ∷ parse_json (data_of e) None ∷ set_first e ∷ branch (truth e) no_actions no_actions
    ∷ switch (whole e) no_cases ∷ switch_else (whole e) no_cases no_actions
    ∷ each (data_of e) [] ∷ []

-- at what a Select or a Query asks of each item
abbrev pub at_items : ExprTree → List KindTree
at_items e = select some (data_of e) ∷ query some (whole e) ∷ []

-- at the expression of an Until
abbrev pub at_test : ExprTree → List KindTree
at_test e = turns (truth e) [] ∷ []

-- in tracked properties, of an action of each site
abbrev pub in_tracked : String → List After → ExprTree → List ActionTree
in_tracked pointer waits e =
    map (λ kind. tracking "A" 0 pointer waits kind e) (one ∷ select some null ∷ query some (plain []) ∷ in_scope [] ∷ turns yes [] ∷ [])

abbrev pub of_kinds : String → List After → List KindTree → List ActionTree
of_kinds pointer waits kinds = map (at "A" 0 pointer waits) kinds

-- at all of these places
abbrev pub everywhere : String → List After → ExprTree → List ActionTree
everywhere pointer waits e = of_kinds pointer waits (at_inputs e ++ (at_items e ++ at_test e)) ++ in_tracked pointer waits e

-- what is told of each of these actions in turn, in a definition of it
abbrev pub told_of : (ActionTree → DefTree) → List ActionTree → List (Option RuleFault)
told_of within as' = map (λ a. broken_of (within a)) as'

-- the same of each
abbrev pub each_is : Option RuleFault → List ActionTree → List (Option RuleFault)
each_is answer as' = map (λ (a : ActionTree). answer) as'
