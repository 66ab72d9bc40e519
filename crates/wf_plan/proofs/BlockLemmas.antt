-- What stands in no loop, by the walk over trees and by the graph.
use Rattle.std.proofs.Common.{◌≡◌, ◌∷◌, ◌++◌, append_assoc, append-nil, refl, sym, ap, ap₂, ◌∙◌}
use Rattle.wf_def.specs.Definition as layers
use Rattle.wf_def.specs.ActionTree.{ActionTree, action, action_kind, action_number, KindTree, compose, connector, wait, response, terminate, select, query, join, parse_json, initialize, set_to, increment, decrement, append_array, append_string, scope, branch, switch, switch_else, foreach, until, ActionTrees, no_actions, action_then, CaseTrees, no_cases, case_then}
use Rattle.wf_def.specs.Layered.{layered, layered_cases, layered_kind}
use Rattle.wf_plan.specs.Plan.{shown, shown_any, shown_in}
use Rattle.wf_plan.specs.Walk.{block_cases, block_in, block_inside, block_of}

mutual
  pub graph_block : (graph : ActionTrees) → block_in graph ≡ shown_in (layered graph)
  graph_block no_actions = refl
  graph_block (action_then (action name number pointer after kind tracked) rest) =
      ap₂ (λ xs ys. number ∷ (xs ++ ys)) (kind_block kind) (graph_block rest)

  kind_block : (kind : KindTree) → block_inside kind ≡ shown (layered_kind kind)
  kind_block (compose inputs) = refl
  kind_block (connector inputs policy) = refl
  kind_block (wait inputs) = refl
  kind_block (response inputs) = refl
  kind_block (terminate inputs) = refl
  kind_block (select from item) = refl
  kind_block (query from filter) = refl
  kind_block (join from with') = refl
  kind_block (parse_json content schema) = refl
  kind_block (initialize variables) = refl
  kind_block (set_to name value) = refl
  kind_block (increment name value) = refl
  kind_block (decrement name value) = refl
  kind_block (append_array name value) = refl
  kind_block (append_string name value) = refl
  kind_block (scope graph) = graph_block graph
  kind_block (branch test yes' no') =
      ap₂ (λ xs ys. xs ++ ys) (graph_block yes') (graph_block no')
      ∙ ap (λ ys. shown_in (layered yes') ++ ys) (sym (append-nil (shown_in (layered no'))))
  kind_block (switch on cases) =
      sym (append-nil (block_cases cases)) ∙ cases_block cases (layers.branch layers.done layers.no_branch)
  kind_block (switch_else on cases default) =
      ap (λ ys. block_cases cases ++ ys) (graph_block default ∙ sym (append-nil (shown_in (layered default))))
      ∙ cases_block cases (layers.branch (layered default) layers.no_branch)
  kind_block (foreach items repetitions graph) = refl
  kind_block (until test count fails graph) = refl

  cases_block : (cases : CaseTrees) (last : layers.Branches) → block_cases cases ++ shown_any last ≡ shown_any (layered_cases cases last)
  cases_block no_cases last = refl
  cases_block (case_then name value graph rest) last =
      append_assoc (block_in graph) (block_cases rest) (shown_any last)
      ∙ ap₂ (λ xs ys. xs ++ ys) (graph_block graph) (cases_block rest last)

pub action_block : (a : ActionTree) → block_of a ≡ action_number a ∷ shown (layered_kind (action_kind a))
action_block (action name number pointer after kind tracked) = ap (λ ns. number ∷ ns) (kind_block kind)
