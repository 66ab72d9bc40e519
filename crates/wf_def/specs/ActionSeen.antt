-- The tree that an action stands for.
use Rattle.std.specs.Prelude.{ℕ, List, map, Some, None, option_map}
use Rattle.wf_val.specs.Seen.{tree}
use Rattle.wf_template.specs.TemplateSeen.{template_tree}
use Rattle.wf_template.specs.DataSeen.{data_tree}
use Rattle.wf_template.specs.CondSeen.{cond_tree}
use Rattle.wf_schema.specs.Reading.{schema_tree}
use Rattle.wf_def.specs.ActionTree.{InitialTree, ActionTree, action, KindTree, compose, connector, wait, response, terminate, select, query, join, parse_json, initialize, set_to, increment, decrement, append_array, append_string, scope, branch, switch, switch_else, foreach, until, ActionTrees, CaseTree, action_trees, case_trees}
use Rattle.wf_def.specs.declared.sort.Initial.{Initial}
use Rattle.wf_def.specs.declared.graph.Kind.{Kind, Kind-F, fold-Kind}
use Rattle.wf_def.specs.declared.graph.Kind.TheOpen.{Action-F, Actions-F, Case-F, Cases-F, Graph-F}
use Rattle.wf_def.specs.declared.graph.Action.{Action, fold-Action}
use Rattle.wf_def.specs.declared.graph.Graph.{Graph, fold-Graph}
use Rattle.wf_def.specs.declared.graph.Case.{Case, fold-Case}
use Rattle.wf_def.specs.declared.graph.Actions.{Actions, out-Actions}
use Rattle.wf_def.specs.declared.graph.Cases.{Cases, out-Cases}

abbrev pub initial_tree : Initial → InitialTree
initial_tree i = record { name = i.name; sort = i.sort; value = option_map data_tree i.value }

-- the top of a kind, whose graphs and cases are seen already; and of the others
abbrev pub kind_step : Kind-F KindTree ActionTree (List ActionTree) CaseTree (List CaseTree) ActionTrees → KindTree
kind_step (Kind-F.Compose inputs) = compose (data_tree inputs)
kind_step (Kind-F.Connector inputs policy) = connector (data_tree inputs) policy
kind_step (Kind-F.Wait inputs) = wait (data_tree inputs)
kind_step (Kind-F.Response inputs) = response (data_tree inputs)
kind_step (Kind-F.Terminate inputs) = terminate (data_tree inputs)
kind_step (Kind-F.Select from item) = select (data_tree from) (data_tree item)
kind_step (Kind-F.Query from filter) = query (data_tree from) (template_tree filter)
kind_step (Kind-F.Join from with') = join (data_tree from) (data_tree with')
kind_step (Kind-F.ParseJson content schema) = parse_json (data_tree content) (option_map schema_tree schema)
kind_step (Kind-F.Initialize variables) = initialize (map initial_tree variables)
kind_step (Kind-F.Set name value) = set_to name (data_tree value)
kind_step (Kind-F.Increment name value) = increment name (option_map data_tree value)
kind_step (Kind-F.Decrement name value) = decrement name (option_map data_tree value)
kind_step (Kind-F.AppendArray name value) = append_array name (data_tree value)
kind_step (Kind-F.AppendString name value) = append_string name (data_tree value)
kind_step (Kind-F.Scope graph) = scope graph
kind_step (Kind-F.If test yes' no') = branch (cond_tree test) yes' no'
kind_step (Kind-F.Switch on cases None) = switch (template_tree on) (case_trees cases)
kind_step (Kind-F.Switch on cases (Some default)) = switch_else (template_tree on) (case_trees cases) default
kind_step (Kind-F.Foreach list repetitions graph) = foreach (data_tree list) repetitions graph
kind_step (Kind-F.Until test count fails graph) = until (cond_tree test) count fails graph

abbrev pub action_step : Action-F KindTree ActionTree (List ActionTree) CaseTree (List CaseTree) ActionTrees → ActionTree
action_step a = action a.name a.number a.pointer a.after a.kind a.tracked

abbrev pub actions_step : Actions-F KindTree ActionTree (List ActionTree) CaseTree (List CaseTree) ActionTrees → List ActionTree
actions_step a = a.items.items

abbrev pub case_step : Case-F KindTree ActionTree (List ActionTree) CaseTree (List CaseTree) ActionTrees → CaseTree
case_step c = (c.name, (tree c.value, c.graph))

abbrev pub cases_step : Cases-F KindTree ActionTree (List ActionTree) CaseTree (List CaseTree) ActionTrees → List CaseTree
cases_step a = a.items.items

abbrev pub graph_step : Graph-F KindTree ActionTree (List ActionTree) CaseTree (List CaseTree) ActionTrees → ActionTrees
graph_step g = action_trees g.actions

abbrev pub action_tree : Action → ActionTree
action_tree = fold-Action KindTree ActionTree (List ActionTree) CaseTree (List CaseTree) ActionTrees
    kind_step action_step actions_step case_step cases_step graph_step

abbrev pub kind_tree : Kind → KindTree
kind_tree = fold-Kind KindTree ActionTree (List ActionTree) CaseTree (List CaseTree) ActionTrees
    kind_step action_step actions_step case_step cases_step graph_step

abbrev pub graph_tree : Graph → ActionTrees
graph_tree = fold-Graph KindTree ActionTree (List ActionTree) CaseTree (List CaseTree) ActionTrees
    kind_step action_step actions_step case_step cases_step graph_step

abbrev pub case_tree : Case → CaseTree
case_tree = fold-Case KindTree ActionTree (List ActionTree) CaseTree (List CaseTree) ActionTrees
    kind_step action_step actions_step case_step cases_step graph_step

-- the plurals, as lists
abbrev pub actions_seen : Actions → List ActionTree
actions_seen as' = map action_tree (out-Actions as').items.items

abbrev pub cases_seen : Cases → List CaseTree
cases_seen cs = map case_tree (out-Cases cs).items.items
