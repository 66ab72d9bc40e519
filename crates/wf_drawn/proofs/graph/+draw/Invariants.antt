use Rattle.std.proofs.Common.{◌≡◌, ◌+◌, ◌*◌, ◌∷◌, drop, map}
use Rattle.wf_def.specs.ActionTree.{action_trees, case_trees}
use Rattle.wf_def.specs.ActionSeen.{action_tree, case_tree, cases_seen, graph_tree, kind_tree}
use Rattle.wf_def.specs.Names.{action_size, cases_size, graph_size, kind_size}
use Rattle.wf_html.specs.Html.{opened, written}
use Rattle.wf_html.specs.declared.tag.Tag.{Tag}
use Rattle.wf_drawn.specs.Drawn.{cases_pieces, each_level, level_pieces}
use Rattle.wf_drawn.specs.Views.{view_tree}
use Rattle.wf_drawn.proofs.graph.+draw.Given as goal

-- a container is larger than the graphs that it holds by one, and four steps lead from it to the actions of one
abbrev pub decreases-in_level : goal.decreases-in_level
decreases-in_level l = 4 * graph_size (graph_tree l.graph.now)

abbrev pub decreases-in_graph : goal.decreases-in_graph
decreases-in_graph l = 4 * graph_size (graph_tree l.graph.now) + 1

abbrev pub decreases-in_held : goal.decreases-in_held
decreases-in_held l = 4 * graph_size (graph_tree l.graph.now) + 2

abbrev pub decreases-in_one : goal.decreases-in_one
decreases-in_one l = 4 * graph_size (graph_tree l.graph.now) + 3

abbrev pub decreases-in_action : goal.decreases-in_action
decreases-in_action l = 4 * action_size (action_tree l.action.now)

abbrev pub decreases-in_kind : goal.decreases-in_kind
decreases-in_kind l = 4 * kind_size (kind_tree l.kind.now)

abbrev pub decreases-in_cases : goal.decreases-in_cases
decreases-in_cases l = 4 * cases_size (case_trees (cases_seen l.cases.now))

-- the levels so far
abbrev pub invariant-in_graph-loop-k : goal.invariant-in_graph-loop-k
invariant-in_graph-loop-k l =
    l.bytes.items ≡ written l.fn.bytes.items (opened Tag.Graph ∷ each_level l.k (λ k. level_pieces (view_tree l.view) k (graph_tree l.graph)))

-- what is written, and the actions that are left
abbrev pub invariant-in_level-loop-action : goal.invariant-in_level-loop-action
invariant-in_level-loop-action l =
    written l.bytes.items (level_pieces (view_tree l.view) l.k (action_trees (map action_tree (drop l.action-index l.action-items))))
    ≡ written l.fn.bytes.items (level_pieces (view_tree l.view) l.k (graph_tree l.graph))

-- and the cases that are left
abbrev pub invariant-in_cases-loop-case : goal.invariant-in_cases-loop-case
invariant-in_cases-loop-case l =
    written l.bytes.items (cases_pieces (view_tree l.view) (case_trees (map case_tree (drop l.case-index l.case-items))))
    ≡ written l.fn.bytes.items (cases_pieces (view_tree l.view) (case_trees (cases_seen l.cases)))
