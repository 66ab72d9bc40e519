-- The actions that the rules look at, in the order of the tree.
use Rattle.std.proofs.Common.{◌≡◌, ℕ, List, [], ◌∷◌, ◌++◌, map, refl, ap, ◌∙◌}
use Rattle.std.proofs.lemmas.List.{map-append}
use Rattle.wf_known_laws.specs.ActionTree.{ActionTree, action, action_number, KindTree, scope, branch, switch, switch_else, foreach, until}
use Rattle.wf_known_laws.specs.ActionTree.{ActionTrees, no_actions, action_then, CaseTrees, no_cases, case_then}
use Rattle.wf_known_laws.specs.Facts.{graph_numbers}
use Rattle.wf_rules.proofs.NumberLemmas.{numbers_are}
use Rattle.wf_known_laws.specs.AllActions.{all_actions, cases_actions, kind_actions}
use Rattle.wf_rules.specs.Standing.{StandingTree, case_standings, graph_standings, kind_standings, number_at, standings_of}

abbrev action_of : StandingTree → ActionTree
action_of s = s.action

joined : (xs ys : List StandingTree) (as' bs : List ActionTree) → map action_of xs ≡ as' → map action_of ys ≡ bs
    → map action_of (xs ++ ys) ≡ as' ++ bs
joined xs ys as' bs one other =
    map-append action_of xs ys ∙ ap (λ (l : List ActionTree). l ++ map action_of ys) one ∙ ap (λ (l : List ActionTree). as' ++ l) other

mutual
  graph-actions : (round : List ActionTree) (g : ActionTrees) → map action_of (graph_standings round g) ≡ all_actions g
  graph-actions round no_actions = refl
  graph-actions round (action_then (action name number pointer after kind tracked) rest) =
      ap (λ (l : List ActionTree). action name number pointer after kind tracked ∷ l)
      (joined (kind_standings (round ++ action name number pointer after kind tracked ∷ []) kind) (graph_standings round rest)
      (kind_actions kind) (all_actions rest) (kind-actions (round ++ action name number pointer after kind tracked ∷ []) kind)
      (graph-actions round rest))

  kind-actions : (round : List ActionTree) (k : KindTree) → map action_of (kind_standings round k) ≡ kind_actions k
  kind-actions round (scope graph) = graph-actions round graph
  kind-actions round (branch test yes' no') =
      joined (graph_standings round yes') (graph_standings round no') (all_actions yes') (all_actions no') (graph-actions round yes')
      (graph-actions round no')
  kind-actions round (switch on cases) = cases-actions round cases
  kind-actions round (switch_else on cases default) =
      joined (case_standings round cases) (graph_standings round default) (cases_actions cases) (all_actions default)
      (cases-actions round cases) (graph-actions round default)
  kind-actions round (foreach items repetitions graph) = graph-actions round graph
  kind-actions round (until test count fails graph) = graph-actions round graph
  kind-actions round k = refl

  cases-actions : (round : List ActionTree) (cs : CaseTrees) → map action_of (case_standings round cs) ≡ cases_actions cs
  cases-actions round no_cases = refl
  cases-actions round (case_then name value graph rest) =
      joined (graph_standings round graph) (case_standings round rest) (all_actions graph) (cases_actions rest)
      (graph-actions round graph) (cases-actions round rest)

pub all-actions : (g : ActionTrees) → map (λ (s : StandingTree). s.action) (standings_of g) ≡ all_actions g
all-actions g = graph-actions [] g

twice : (ss : List StandingTree) → map number_at ss ≡ map action_number (map action_of ss)
twice [] = refl
twice (s ∷ ss) = ap (λ (l : List ℕ). number_at s ∷ l) (twice ss)

-- and their numbers
pub all-numbers : (g : ActionTrees) → map number_at (standings_of g) ≡ graph_numbers g
all-numbers g = twice (standings_of g) ∙ ap (map action_number) (graph-actions [] g) ∙ numbers_are g
