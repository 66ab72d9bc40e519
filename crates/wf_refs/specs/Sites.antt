-- What stands at the sites of a definition, and what is asked for there. A site is a place of a definition whose expressions a run
-- evaluates together: an action's inputs, condition, expression or list; what a Select or a Query asks of each item; the expression of an
-- Until; an action's tracked properties; an output; a trigger.
use Rattle.std.specs.Prelude.{ℕ, List, [], ◌∷◌, ◌++◌, map, Option, Some, None, option_map, slice_get}
use Rattle.std.specs.Option.{option_and_then}
use Rattle.wf_template.specs.TemplateTree.{TemplateTree}
use Rattle.wf_template.specs.DataTree.{DataTree, data_members}
use Rattle.wf_def.specs.ActionTree.{ActionTree, action, InitialTree, KindTree, compose, connector, wait, response, terminate, select, query}
use Rattle.wf_def.specs.ActionTree.{join, parse_json, initialize, set_to, increment, decrement, append_array, append_string, scope, branch}
use Rattle.wf_def.specs.ActionTree.{switch, switch_else, foreach, until}
use Rattle.wf_def.specs.DefTree.{DefTree, OutputTree, TriggerTree}
use Rattle.wf_uses.specs.Uses.{Use}
use Rattle.wf_eval.specs.Uses.{cond_uses, members_uses, template_uses, tree_uses}
use Rattle.wf_def.specs.AllActions.{numbered}
use Rattle.wf_uses.specs.UsesTree.{UsesTree, uses_tree}
use Rattle.wf_refs.specs.declared.site.Site.{Site}

-- ---- the uses at each site of an action

-- of a value that may be left out
abbrev pub value_uses : Option DataTree → List Use
value_uses None = []
value_uses (Some t) = tree_uses t

abbrev pub initials_uses : List InitialTree → List Use
initials_uses [] = []
initials_uses (i ∷ is) = value_uses i.value ++ initials_uses is

-- all but what is asked of each item, and the expression of an Until
abbrev pub inputs_uses : KindTree → List Use
inputs_uses (compose inputs) = tree_uses inputs
inputs_uses (connector inputs policy) = tree_uses inputs
inputs_uses (wait inputs) = tree_uses inputs
inputs_uses (response inputs) = tree_uses inputs
inputs_uses (terminate inputs) = tree_uses inputs
inputs_uses (select from item) = tree_uses from
inputs_uses (query from filter) = tree_uses from
inputs_uses (join from with') = tree_uses from ++ tree_uses with'
inputs_uses (parse_json content schema) = tree_uses content
inputs_uses (initialize variables) = initials_uses variables
inputs_uses (set_to name value) = tree_uses value
inputs_uses (increment name value) = value_uses value
inputs_uses (decrement name value) = value_uses value
inputs_uses (append_array name value) = tree_uses value
inputs_uses (append_string name value) = tree_uses value
inputs_uses (scope graph) = []
inputs_uses (branch test yes' no') = cond_uses test
inputs_uses (switch on cases) = template_uses on
inputs_uses (switch_else on cases default) = template_uses on
inputs_uses (foreach items repetitions graph) = tree_uses items
inputs_uses (until test count fails graph) = []

-- what a Select or a Query asks of each item
abbrev pub items_uses : KindTree → Option (List Use)
items_uses (select from item) = Some (tree_uses item)
items_uses (query from filter) = Some (template_uses filter)
items_uses kind = None

-- the expression of an Until
abbrev pub test_uses : KindTree → Option (List Use)
test_uses (until test count fails graph) = Some (cond_uses test)
test_uses kind = None

-- the variables that an action initialises or writes
abbrev pub writes_of : KindTree → List (List ℕ)
writes_of (initialize variables) = map (λ i. i.name) variables
writes_of (set_to name value) = name ∷ []
writes_of (increment name value) = name ∷ []
writes_of (decrement name value) = name ∷ []
writes_of (append_array name value) = name ∷ []
writes_of (append_string name value) = name ∷ []
writes_of kind = []

-- ---- the uses of outputs and triggers

abbrev pub templates_uses : List TemplateTree → List Use
templates_uses [] = []
templates_uses (t ∷ ts) = template_uses t ++ templates_uses ts

abbrev pub split_uses : Option TemplateTree → List Use
split_uses None = []
split_uses (Some t) = template_uses t

-- what a trigger splits, and then its conditions
abbrev pub trigger_uses : TriggerTree → List Use
trigger_uses t = split_uses t.split ++ templates_uses t.conditions

-- ---- by what they name; variables are written at the inputs alone

abbrev pub uses_at_inputs : ActionTree → UsesTree
uses_at_inputs (action name number pointer after kind tracked) = uses_tree (writes_of kind) (inputs_uses kind)

abbrev pub uses_at_items : ActionTree → Option UsesTree
uses_at_items (action name number pointer after kind tracked) = option_map (uses_tree []) (items_uses kind)

abbrev pub uses_at_test : ActionTree → Option UsesTree
uses_at_test (action name number pointer after kind tracked) = option_map (uses_tree []) (test_uses kind)

abbrev pub uses_at_tracked : ActionTree → UsesTree
uses_at_tracked (action name number pointer after kind tracked) = uses_tree [] (members_uses (data_members tracked))

-- the uses of an action's sites
pub record ActionUsesTree : Type 0 where
  pub inputs : UsesTree
  pub items : Option UsesTree
  pub test : Option UsesTree
  pub tracked : UsesTree

abbrev pub action_uses : ActionTree → ActionUsesTree
action_uses a = record { inputs = uses_at_inputs a; items = uses_at_items a; test = uses_at_test a; tracked = uses_at_tracked a }

abbrev pub uses_at_output : OutputTree → UsesTree
uses_at_output o = uses_tree [] (tree_uses o.value)

abbrev pub uses_at_trigger : TriggerTree → UsesTree
uses_at_trigger t = uses_tree [] (trigger_uses t)

-- ---- and of a whole definition: actions go by their numbers, outputs and triggers by their places

abbrev pub uses_of : DefTree → Site → Option UsesTree
uses_of d (Site.Inputs n) = option_map uses_at_inputs (numbered n d.top)
uses_of d (Site.Items n) = option_and_then uses_at_items (numbered n d.top)
uses_of d (Site.Test n) = option_and_then uses_at_test (numbered n d.top)
uses_of d (Site.Tracked n) = option_map uses_at_tracked (numbered n d.top)
uses_of d (Site.Outputs i) = option_map uses_at_output (slice_get d.outputs i)
uses_of d (Site.Trigger i) = option_map uses_at_trigger (slice_get d.triggers i)
