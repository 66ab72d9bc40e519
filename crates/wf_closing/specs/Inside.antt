-- WHAT CLOSING ASKS OF A CONTAINER beside its kind: its own graphs, as they are judged, and the Terminates inside it.
use Rattle.std.specs.Prelude.{◌≡◌, ℕ, zero, suc, Bool, false, ◌||◌, cond, List, [], ◌∷◌, ◌++◌, length, map, filter, Option, Some, None, nat_eq, nat_lt}
use Rattle.std.specs.Prelude.{slice_get, codes, if◌then◌else◌}
use Rattle.std.specs.List.{AllByRecursion}
use Rattle.wf_layers.specs.Address.{Table, address}
use Rattle.wf_def.specs.ActionTree.{ActionTrees, CaseTrees, KindTree, action_kind, action_number, actions_in, no_cases, case_then}
use Rattle.wf_def.specs.ActionTree.{scope, branch, switch, switch_else, foreach, until}
use Rattle.wf_def.specs.AllActions.{kind_actions}
use Rattle.wf_record.specs.Record.{Row}
use Rattle.wf_record.specs.declared.status.Status.{Status}
use Rattle.wf_record.specs.declared.status.Status.TheVariants.{Failed, Succeeded}
use Rattle.wf_val.specs.Arguments.{wrong_type}
use Rattle.wf_val.specs.ValueTree.{null, list, trees}
use Rattle.wf_val.specs.declared.function.Fun.{Fun}
use Rattle.wf_meant.specs.Decisions.{DecisionTree, each, too_many, faulty}
use Rattle.wf_meant.specs.Verdicts.{VerdictTree}
use Rattle.wf_meant.specs.Done.{DoneTree, faulted}
use Rattle.wf_meant.specs.Containers.{close_branch, close_until, closed_as, failed_by, has_succeeded, is_failed}
use Rattle.wf_meant.specs.Containers.{is_terminate, iterations_value, unless_cut}
use Rattle.wf_meant.specs.Status.{graph_status}
use Rattle.wf_closing.specs.Judged.{status_by}
use Rattle.wf_closing.specs.Steps.{JudgedTree, judged_of}

-- the graphs of a container: of a Switch those of its cases, and behind them the one that is taken where none of them is
abbrev pub case_graphs : CaseTrees → List ActionTrees
case_graphs no_cases = []
case_graphs (case_then name value graph rest) = graph ∷ case_graphs rest

abbrev pub graphs_in : KindTree → List ActionTrees
graphs_in (scope graph) = graph ∷ []
graphs_in (branch test yes' no') = yes' ∷ no' ∷ []
graphs_in (switch on cases) = case_graphs cases
graphs_in (switch_else on cases default) = case_graphs cases ++ default ∷ []
graphs_in (foreach items repetitions graph) = graph ∷ []
graphs_in (until test count fails graph) = graph ∷ []
graphs_in kind = []

pub record InsideTree : Type 0 where
  pub graphs : List JudgedTree
  pub terminates : List ℕ

abbrev pub inside_of : KindTree → InsideTree
inside_of kind = record {
  graphs = map (λ graph. judged_of (actions_in graph)) (graphs_in kind);
  terminates = map action_number (filter (λ a. is_terminate (action_kind a)) (kind_actions kind));
}

-- the status of the graph at a place among them; a graph that isn't there Succeeded
abbrev pub status_at : Option JudgedTree → List ℕ → Table Row → Status
status_at None at known = Succeeded
status_at (Some j) at known = status_by at known j

abbrev pub status_in : InsideTree → ℕ → List ℕ → Table Row → Status
status_in i place at known = status_at (slice_get i.graphs place) at known

-- one of the Terminates inside Succeeded at these indexes
abbrev pub any_succeeded : List ℕ → List ℕ → Table Row → Bool
any_succeeded [] at known = false
any_succeeded (n ∷ ns) at known = has_succeeded (known (address n at)) || any_succeeded ns at known

-- WHAT IS ASKED of a container's graphs: that the steps of each give its status.
abbrev pub IsJudged : ActionTrees → Type 0
IsJudged graph = (at : List ℕ) (known : Table Row) → status_by at known (judged_of (actions_in graph)) ≡ graph_status (actions_in graph) at known

abbrev pub AreJudged : KindTree → Type 0
AreJudged kind = AllByRecursion IsJudged (graphs_in kind)

-- the status of the graph at a place, of a container's own; one that isn't there Succeeded
abbrev pub status_of_graph : Option ActionTrees → List ℕ → Table Row → Status
status_of_graph None at known = Succeeded
status_of_graph (Some graph) at known = graph_status (actions_in graph) at known

abbrev pub own_status : List ActionTrees → ℕ → List ℕ → Table Row → Status
own_status graphs place at known = status_of_graph (slice_get graphs place) at known

-- The place of the branch of a number: of an If the first is 1, and any other number means the second; of a Switch cases are counted from
-- 1, and any other number means what is behind them.
abbrev pub case_place : ℕ → ℕ → ℕ
case_place cases zero = cases
case_place cases (suc k) = cond (nat_lt k cases) k cases

abbrev pub branch_place : KindTree → ℕ → ℕ
branch_place (branch test yes' no') k = cond (nat_eq k 1) 0 1
branch_place (switch on cases) k = case_place (length (case_graphs cases)) k
branch_place (switch_else on cases default) k = case_place (length (case_graphs cases)) k
branch_place kind k = 0

-- ---- loops: their graph is the first of their own, at the indexes of an iteration

abbrev pub any_own_failed : List ActionTrees → List ℕ → Table Row → ℕ → Bool
any_own_failed graphs at known zero = false
any_own_failed graphs at known (suc n) =
    any_own_failed graphs at known n || is_failed (own_status graphs 0 (at ++ n ∷ []) known)

abbrev pub last_own_status : List ActionTrees → List ℕ → Table Row → ℕ → Status
last_own_status graphs at known zero = Succeeded
last_own_status graphs at known (suc n) = own_status graphs 0 (at ++ n ∷ []) known

abbrev pub foreach_closed : List ActionTrees → List ℕ → Table Row → DecisionTree → DoneTree
foreach_closed graphs at known (each ts) =
    closed_as (if any_own_failed graphs at known (length ts) then Failed else Succeeded) (list (trees ts)) null
foreach_closed graphs at known too_many = failed_by (codes "LimitExceeded") null
foreach_closed graphs at known (faulty f) = faulted f
foreach_closed graphs at known decision = faulted (wrong_type Fun.Foreach 0)

-- ---- each kind of container, by its own graphs

abbrev pub closed_by : KindTree → List ℕ → DecisionTree → (iterations : ℕ) → Option VerdictTree → Table Row → DoneTree
closed_by (scope graph) at decision n verdict known =
    unless_cut at known (scope graph) null (own_status (graphs_in (scope graph)) 0 at known)
closed_by (branch test yes' no') at decision n verdict known =
    close_branch at known (branch test yes' no')
    (λ k. own_status (graphs_in (branch test yes' no')) (branch_place (branch test yes' no') k) at known) decision
closed_by (switch on cases) at decision n verdict known =
    close_branch at known (switch on cases) (λ k. own_status (graphs_in (switch on cases)) (branch_place (switch on cases) k) at known) decision
closed_by (switch_else on cases default) at decision n verdict known =
    close_branch at known (switch_else on cases default)
    (λ k. own_status (graphs_in (switch_else on cases default)) (branch_place (switch_else on cases default) k) at known) decision
closed_by (foreach items repetitions graph) at decision n verdict known =
    foreach_closed (graphs_in (foreach items repetitions graph)) at known decision
closed_by (until test count fails graph) at decision n verdict known =
    close_until fails (last_own_status (graphs_in (until test count fails graph)) at known n) (iterations_value n) verdict
closed_by kind at decision n verdict known = closed_as Succeeded null null
