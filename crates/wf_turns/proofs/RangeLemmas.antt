-- The numbers of each action of a definition have their ranges.
use Rattle.std.proofs.Common.{List, [], ◌∷◌, ◌++◌}
use Rattle.std.specs.List.{AllByRecursion}
use Rattle.wf_known_laws.specs.ActionTree.{ActionTree, action, action_kind, KindTree, compose, connector, wait, response, terminate, select}
use Rattle.wf_known_laws.specs.ActionTree.{query, join, parse_json, initialize, set_to, increment}
use Rattle.wf_known_laws.specs.ActionTree.{decrement, append_array, append_string, scope}
use Rattle.wf_known_laws.specs.ActionTree.{branch, switch, switch_else, foreach, until, ActionTrees}
use Rattle.wf_known_laws.specs.ActionTree.{no_actions, action_then, CaseTrees, no_cases}
use Rattle.wf_known_laws.specs.ActionTree.{case_then}
use Rattle.wf_known_laws.specs.AllActions.{all_actions, cases_actions, kind_actions}
use Rattle.wf_known_laws.specs.Each.{EachCase, EachGraph, EachIn, EachInside}
use Rattle.wf_known_laws.specs.Held.{AreInRange, IsInRange}

abbrev pub HasRange : ActionTree → Type 0
HasRange a = IsInRange (action_kind a)

joined : {X : Type 0} (P : X → Type 0) (xs ys : List X) → AllByRecursion P xs → AllByRecursion P ys → AllByRecursion P (xs ++ ys)
joined P [] ys one other = other
joined P (x ∷ xs) ys one other = (one.0, joined P xs ys one.1 other)

mutual
  pub graph_ranges : (graph : ActionTrees) → AreInRange graph → EachInside AreInRange graph → AllByRecursion HasRange (all_actions graph)
  graph_ranges no_actions own inner = tt
  graph_ranges (action_then (action name number pointer after kind tracked) rest) own inner =
      (own.0, joined HasRange (kind_actions kind) (all_actions rest) (kind_ranges kind inner.0) (graph_ranges rest own.1 inner.1))

  kind_ranges : (kind : KindTree) → EachIn AreInRange kind → AllByRecursion HasRange (kind_actions kind)
  kind_ranges (compose inputs) each = tt
  kind_ranges (connector inputs policy) each = tt
  kind_ranges (wait inputs) each = tt
  kind_ranges (response inputs) each = tt
  kind_ranges (terminate inputs) each = tt
  kind_ranges (select from item) each = tt
  kind_ranges (query from filter) each = tt
  kind_ranges (join from with') each = tt
  kind_ranges (parse_json content schema) each = tt
  kind_ranges (initialize variables) each = tt
  kind_ranges (set_to name value) each = tt
  kind_ranges (increment name value) each = tt
  kind_ranges (decrement name value) each = tt
  kind_ranges (append_array name value) each = tt
  kind_ranges (append_string name value) each = tt
  kind_ranges (scope graph) each = graph_ranges graph each.0 each.1
  kind_ranges (branch test yes' no') each =
      joined HasRange (all_actions yes') (all_actions no') (graph_ranges yes' each.0.0 each.0.1) (graph_ranges no' each.1.0 each.1.1)
  kind_ranges (switch on cases) each = case_ranges cases each
  kind_ranges (switch_else on cases default) each =
      joined HasRange (cases_actions cases) (all_actions default) (case_ranges cases each.0) (graph_ranges default each.1.0 each.1.1)
  kind_ranges (foreach items repetitions graph) each = graph_ranges graph each.0 each.1
  kind_ranges (until test count fails graph) each = graph_ranges graph each.0 each.1

  case_ranges : (cases : CaseTrees) → EachCase AreInRange cases → AllByRecursion HasRange (cases_actions cases)
  case_ranges no_cases each = tt
  case_ranges (case_then name value graph rest) each =
      joined HasRange (all_actions graph) (cases_actions rest) (graph_ranges graph each.0.0 each.0.1) (case_ranges rest each.1)

pub all_ranges : (graph : ActionTrees) → EachGraph AreInRange graph → AllByRecursion HasRange (all_actions graph)
all_ranges graph each = graph_ranges graph each.0 each.1
