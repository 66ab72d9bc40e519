-- Each Until of a definition that was read has so few iterations that a value holds their number.
use Rattle.std.proofs.Common.{◌^◌, arith}
use Rattle.wf_layers.specs.Definition.{Branches, branch, done, no_branch}
use Rattle.wf_def.specs.ActionTree.{action, KindTree, compose, connector, wait, response, terminate, select, query, join, parse_json}
use Rattle.wf_def.specs.ActionTree.{initialize, set_to, increment, decrement, append_array, append_string, scope, switch, switch_else}
use Rattle.wf_def.specs.ActionTree.{foreach}
use Rattle.wf_def.specs.ActionTree.{until, ActionTrees, no_actions, action_then, CaseTrees, no_cases, case_then}
use Rattle.wf_def.specs.ActionTree as tree
use Rattle.wf_def.specs.Layered.{layered, layered_cases, layered_kind}
use Rattle.wf_known_laws.specs.Each.{EachCase, EachGraph, EachIn, EachInside}
use Rattle.wf_known_laws.specs.Held.{AreInRange, IsInRange}
use Rattle.wf_formed.proofs.MeaningLemmas.{TurnsSmall, TurnsSmallAny, TurnsSmallIn}

mutual
  graph_small : (graph : ActionTrees) → AreInRange graph → EachInside AreInRange graph → TurnsSmall (2 ^ 63) (layered graph)
  graph_small no_actions own inner = tt
  graph_small (action_then (action name number pointer after kind tracked) rest) own inner =
      (kind_small kind own.0 inner.0, graph_small rest own.1 inner.1)

  kind_small : (kind : KindTree) → IsInRange kind → EachIn AreInRange kind → TurnsSmallIn (2 ^ 63) (layered_kind kind)
  kind_small (compose inputs) own each = tt
  kind_small (connector inputs policy) own each = tt
  kind_small (wait inputs) own each = tt
  kind_small (response inputs) own each = tt
  kind_small (terminate inputs) own each = tt
  kind_small (select from item) own each = tt
  kind_small (query from filter) own each = tt
  kind_small (join from with') own each = tt
  kind_small (parse_json content schema) own each = tt
  kind_small (initialize variables) own each = tt
  kind_small (set_to name value) own each = tt
  kind_small (increment name value) own each = tt
  kind_small (decrement name value) own each = tt
  kind_small (append_array name value) own each = tt
  kind_small (append_string name value) own each = tt
  kind_small (scope graph) own each = graph_small graph each.0 each.1
  kind_small (tree.branch test yes' no') own each = (graph_small yes' each.0.0 each.0.1, (graph_small no' each.1.0 each.1.1, tt))
  kind_small (switch on cases) own each = cases_small cases (branch done no_branch) each (tt, tt)
  kind_small (switch_else on cases default) own each =
      cases_small cases (branch (layered default) no_branch) each.0 (graph_small default each.1.0 each.1.1, tt)
  kind_small (foreach items repetitions graph) own each = graph_small graph each.0 each.1
  kind_small (until test count fails graph) own each = (omega (arith, own.1), graph_small graph each.0 each.1)

  cases_small : (cases : CaseTrees) (last : Branches) → EachCase AreInRange cases → TurnsSmallAny (2 ^ 63) last
      → TurnsSmallAny (2 ^ 63) (layered_cases cases last)
  cases_small no_cases last each small = small
  cases_small (case_then name value graph rest) last each small =
      (graph_small graph each.0.0 each.0.1, cases_small rest last each.1 small)

pub turns_small : (graph : ActionTrees) → EachGraph AreInRange graph → TurnsSmall (2 ^ 63) (layered graph)
turns_small graph each = graph_small graph each.0 each.1
