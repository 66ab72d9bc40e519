-- What closing asks of a container gives what its definition says.
use Rattle.std.proofs.Common.{◌≡◌, ℕ, zero, suc, Bool, true, false, ◌||◌, ◌&&◌, List, [], ◌∷◌, length, map, filter, cond, Option, Some, None, slice_get, refl, sym, ap, ◌∙◌, rules}
use Rattle.std.proofs.Common.{◌++◌, nat_eq, nat_lt, append-nil, if◌then◌else◌, arith, le-ltb, lt-ltb, ltb-false, ltb-true}
use Rattle.std.specs.List.{AllByRecursion}
use Rattle.wf_layers.specs.Address.{Table, address}
use Rattle.wf_def.specs.ActionTree.{ActionTree, ActionTrees, CaseTree, KindTree, action_kind, action_number, actions_in, case_trees}
use Rattle.wf_def.specs.AllActions.{kind_actions}
use Rattle.wf_record.specs.Record.{Row}
use Rattle.wf_val.specs.ValueTree.{null, list, trees}
use Rattle.wf_record.specs.declared.status.Status.{Status}
use Rattle.wf_record.specs.declared.status.Status.TheVariants.{Failed, Succeeded}
use Rattle.wf_meant.specs.Decisions.{DecisionTree, nothing, held, chosen, each, too_many, faulty}
use Rattle.wf_meant.specs.Verdicts.{VerdictTree}
use Rattle.wf_meant.specs.Containers.{any_iteration_failed, any_terminated, case_status, close_branch, close_until, closed, closed_as}
use Rattle.wf_meant.specs.Containers.{has_succeeded, is_failed, is_terminate, iterations_value, last_status, status_of, unless_cut}
use Rattle.wf_def.specs.ActionSeen.{cases_seen, graph_tree, kind_tree}
use Rattle.wf_def.specs.ActionTree.{CaseTrees, no_cases, case_then, compose, connector, wait, response, terminate, select, query, join, parse_json}
use Rattle.wf_def.specs.ActionTree.{initialize, set_to, increment, decrement, append_array, append_string, scope, branch, switch, switch_else}
use Rattle.wf_def.specs.ActionTree.{foreach, until}
use Rattle.wf_def.specs.declared.graph.Cases.{Cases}
use Rattle.wf_def.specs.declared.graph.Graph.{Graph}
use Rattle.wf_def.specs.declared.graph.Kind as kinds
use Rattle.wf_def.specs.declared.graph.Kind.TheFolds.{fold-roll-Kind, fold_out-Cases}
use Rattle.wf_def.specs.declared.graph.Kind.TheVariants.{rolls-Switch}
use Rattle.wf_template.specs.TemplateSeen.{template_tree}
use Rattle.wf_template.specs.declared.template.Template.{Template}
use Rattle.wf_closing.specs.Inside.{any_own_failed, branch_place, case_place, closed_by, last_own_status, AreJudged, IsJudged, any_succeeded, case_graphs, graphs_in, inside_of, own_status, status_at, status_in, status_of_graph}
use Rattle.wf_closing.specs.Steps.{judged_of}

judged_at : (graphs : List ActionTrees) → AllByRecursion IsJudged graphs → (place : ℕ) (at : List ℕ) (known : Table Row)
    → status_at (slice_get (map (λ graph. judged_of (actions_in graph)) graphs) place) at known ≡ status_of_graph (slice_get graphs place) at known
judged_at [] are place at known = refl
judged_at (g ∷ gs) are zero at known = are.0 at known
judged_at (g ∷ gs) are (suc place) at known = judged_at gs are.1 place at known

pub own_is : (kind : KindTree) → AreJudged kind → (place : ℕ) (at : List ℕ) (known : Table Row)
    → status_in (inside_of kind) place at known ≡ own_status (graphs_in kind) place at known
own_is kind are place at known = judged_at (graphs_in kind) are place at known

terminated : (as' : List ActionTree) (at : List ℕ) (known : Table Row)
    → any_succeeded (map action_number (filter (λ a. is_terminate (action_kind a)) as')) at known ≡ any_terminated as' at known
terminated [] at known = refl
terminated (a ∷ as') at known = go (is_terminate (action_kind a)) (terminated as' at known)
  where
    go : (b : Bool)
        → any_succeeded (map action_number (filter (λ a. is_terminate (action_kind a)) as')) at known ≡ any_terminated as' at known
        → any_succeeded (map action_number (cond b (a ∷ filter (λ a. is_terminate (action_kind a)) as')
        (filter (λ a. is_terminate (action_kind a)) as'))) at known
        ≡ ((b && has_succeeded (known (address (action_number a) at))) || any_terminated as' at known)
    go true rest = ap (λ c. has_succeeded (known (address (action_number a) at)) || c) rest
    go false rest = rest

pub terminated_is : (kind : KindTree) (at : List ℕ) (known : Table Row)
    → any_succeeded (inside_of kind).terminates at known ≡ any_terminated (kind_actions kind) at known
terminated_is kind at known = terminated (kind_actions kind) at known

pub cases_counted : (cs : List CaseTree) → length (case_graphs (case_trees cs)) ≡ length cs
cases_counted [] = refl
cases_counted (c ∷ cs) = ap (λ n. suc n) (cases_counted cs)

-- a Switch, by whether it has a default
without_default : (on : Template) (cases : Cases)
    → kind_tree (kinds.Switch on cases None) ≡ switch (template_tree on) (case_trees (cases_seen cases))
without_default on cases = ap kind_tree (sym (rolls-Switch on cases None)) ∙ search (rules, fold-roll-Kind, fold_out-Cases)

with_default : (on : Template) (cases : Cases) (g : Graph)
    → kind_tree (kinds.Switch on cases (Some g)) ≡ switch_else (template_tree on) (case_trees (cases_seen cases)) (graph_tree g)
with_default on cases g = ap kind_tree (sym (rolls-Switch on cases (Some g))) ∙ search (rules, fold-roll-Kind, fold_out-Cases)

pub place_without : (on : Template) (cases : Cases) (k : ℕ)
    → branch_place (kind_tree (kinds.Switch on cases None)) k ≡ case_place (length (cases_seen cases)) k
place_without on cases k =
    ap (λ t. branch_place t k) (without_default on cases) ∙ ap (λ n. case_place n k) (cases_counted (cases_seen cases))

pub place_with : (on : Template) (cases : Cases) (g : Graph) (k : ℕ)
    → branch_place (kind_tree (kinds.Switch on cases (Some g))) k ≡ case_place (length (cases_seen cases)) k
place_with on cases g k =
    ap (λ t. branch_place t k) (with_default on cases g) ∙ ap (λ n. case_place n k) (cases_counted (cases_seen cases))

-- ---- the statuses of branches and iterations

one_further : (k n : ℕ) → nat_lt (suc k) (suc n) ≡ nat_lt k n
one_further k n = go (nat_lt k n) refl
  where
    go : (b : Bool) → nat_lt k n ≡ b → nat_lt (suc k) (suc n) ≡ b
    go true e = let lt = ltb-true k n e in lt-ltb (suc k) (suc n) (omega (arith, lt))
    go false e = let le = ltb-false k n e in le-ltb (suc k) (suc n) (omega (arith, le))

none_taken : (cases : CaseTrees) (behind : Status) (at : List ℕ) (known : Table Row) → case_status at known cases zero behind ≡ behind
none_taken no_cases behind at known = refl
none_taken (case_then name value graph cases) behind at known = refl

-- a branch of a Switch, with what is behind its cases
case_is : (cases : CaseTrees) (rest : List ActionTrees) (k : ℕ) (at : List ℕ) (known : Table Row)
    → own_status (case_graphs cases ++ rest) (case_place (length (case_graphs cases)) k) at known
    ≡ case_status at known cases k (own_status rest 0 at known)
case_is no_cases rest zero at known = refl
case_is no_cases rest (suc k) at known =
    ap (λ b. own_status rest (cond b k 0) at known) (le-ltb k 0 (omega arith))
case_is (case_then name value graph cases) rest zero at known =
    case_is cases rest zero at known ∙ none_taken cases (own_status rest 0 at known) at known
case_is (case_then name value graph cases) rest (suc zero) at known =
    ap (λ b. own_status (graph ∷ (case_graphs cases ++ rest)) (cond b 0 (suc (length (case_graphs cases)))) at known)
    (lt-ltb 0 (suc (length (case_graphs cases))) (omega arith))
case_is (case_then name value graph cases) rest (suc (suc k)) at known =
    ap (λ b. own_status (graph ∷ (case_graphs cases ++ rest)) (cond b (suc k) (suc (length (case_graphs cases)))) at known)
    (one_further k (length (case_graphs cases)))
    ∙ go (nat_lt k (length (case_graphs cases))) (case_is cases rest (suc k) at known)
  where
    go : (b : Bool)
        → own_status (case_graphs cases ++ rest) (cond b k (length (case_graphs cases))) at known
        ≡ case_status at known cases (suc k) (own_status rest 0 at known)
        → own_status (graph ∷ (case_graphs cases ++ rest)) (cond b (suc k) (suc (length (case_graphs cases)))) at known
        ≡ case_status at known cases (suc k) (own_status rest 0 at known)
    go true is = is
    go false is = is

plain_case_is : (cases : CaseTrees) (k : ℕ) (at : List ℕ) (known : Table Row)
    → own_status (case_graphs cases) (case_place (length (case_graphs cases)) k) at known ≡ case_status at known cases k Succeeded
plain_case_is cases k at known =
    ap (λ gs. own_status gs (case_place (length (case_graphs cases)) k) at known) (sym (append-nil (case_graphs cases)))
    ∙ case_is cases [] k at known

either_is : (yes' no' : ActionTrees) (k : ℕ) (at : List ℕ) (known : Table Row)
    → own_status (yes' ∷ no' ∷ []) (cond (nat_eq k 1) 0 1) at known
    ≡ (if nat_eq k 1 then status_of at known yes' else status_of at known no')
either_is yes' no' k at known = go (nat_eq k 1)
  where
    go : (b : Bool) → own_status (yes' ∷ no' ∷ []) (cond b 0 1) at known ≡ (if b then status_of at known yes' else status_of at known no')
    go true = refl
    go false = refl

by_branch : (at : List ℕ) (known : Table Row) (kind : KindTree) (f g : ℕ → Status) → ((k : ℕ) → f k ≡ g k) → (decision : DecisionTree)
    → close_branch at known kind f decision ≡ close_branch at known kind g decision
by_branch at known kind f g same nothing = refl
by_branch at known kind f g same (held b) = ap (unless_cut at known kind _) (same _)
by_branch at known kind f g same (chosen v n) = ap (unless_cut at known kind v) (same n)
by_branch at known kind f g same (each ts) = refl
by_branch at known kind f g same too_many = refl
by_branch at known kind f g same (faulty f') = refl

failed_is : (graph : ActionTrees) (at : List ℕ) (known : Table Row) (n : ℕ)
    → any_own_failed (graph ∷ []) at known n ≡ any_iteration_failed graph at known n
failed_is graph at known zero = refl
failed_is graph at known (suc n) = ap (λ b. b || is_failed (status_of (at ++ n ∷ []) known graph)) (failed_is graph at known n)

last_is : (graph : ActionTrees) (at : List ℕ) (known : Table Row) (n : ℕ)
    → last_own_status (graph ∷ []) at known n ≡ last_status graph at known n
last_is graph at known zero = refl
last_is graph at known (suc n) = refl

-- WHAT A CONTAINER COMES TO by its own graphs is what it comes to.
pub closed_is : (kind : KindTree) (at : List ℕ) (decision : DecisionTree) (n : ℕ) (verdict : Option VerdictTree) (known : Table Row)
    → closed_by kind at decision n verdict known ≡ closed kind at decision n verdict known
closed_is (scope graph) at decision n verdict known = refl
closed_is (branch test yes' no') at decision n verdict known =
    by_branch at known (branch test yes' no') _ _ (λ k. either_is yes' no' k at known) decision
closed_is (switch on cases) at decision n verdict known =
    by_branch at known (switch on cases) _ _ (λ k. plain_case_is cases k at known) decision
closed_is (switch_else on cases default) at decision n verdict known =
    by_branch at known (switch_else on cases default) _ _ (λ k. case_is cases (default ∷ []) k at known) decision
closed_is (foreach items repetitions graph) at nothing n verdict known = refl
closed_is (foreach items repetitions graph) at (held b) n verdict known = refl
closed_is (foreach items repetitions graph) at (chosen v k) n verdict known = refl
closed_is (foreach items repetitions graph) at (each ts) n verdict known =
    ap (λ b. closed_as (if b then Failed else Succeeded) (list (trees ts)) null) (failed_is graph at known (length ts))
closed_is (foreach items repetitions graph) at too_many n verdict known = refl
closed_is (foreach items repetitions graph) at (faulty f) n verdict known = refl
closed_is (until test count fails graph) at decision n verdict known =
    ap (λ s. close_until fails s (iterations_value n) verdict) (last_is graph at known n)
closed_is (compose inputs) at decision n verdict known = refl
closed_is (connector inputs policy) at decision n verdict known = refl
closed_is (wait inputs) at decision n verdict known = refl
closed_is (response inputs) at decision n verdict known = refl
closed_is (terminate inputs) at decision n verdict known = refl
closed_is (select from item) at decision n verdict known = refl
closed_is (query from filter) at decision n verdict known = refl
closed_is (join from with') at decision n verdict known = refl
closed_is (parse_json content schema) at decision n verdict known = refl
closed_is (initialize variables) at decision n verdict known = refl
closed_is (set_to name value) at decision n verdict known = refl
closed_is (increment name value) at decision n verdict known = refl
closed_is (decrement name value) at decision n verdict known = refl
closed_is (append_array name value) at decision n verdict known = refl
closed_is (append_string name value) at decision n verdict known = refl
