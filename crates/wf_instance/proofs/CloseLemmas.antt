-- The row of a container is told by its decision, its rounds, its last test, and the rows inside it.
use Rattle.std.proofs.Common.{◌≡◌, ℕ, zero, suc, Bool, true, false, ◌&&◌, ◌||◌, not, cond, List, [], ◌∷◌, ◌++◌, length, Option, Some, None}
use Rattle.std.proofs.Common.{inl, inr, refl, sym, ap, ◌∙◌, subst, true≢false, nat_eq, eqb-true}
use Rattle.std.specs.Prelude.{if◌then◌else◌}
use Rattle.std.specs.List.{find, list_any}
use Rattle.wf_layers.specs.Definition.{Kind, Graph, Branches, holds, has, has_any}
use Rattle.wf_layers.specs.Definition as layers
use Rattle.wf_layers.specs.Address.{Table, address, starts}
use Rattle.wf_layers.specs.Source.{AgreesInside}
use Rattle.wf_layers.proofs.Basics.{two, and_of, or_first, or_second, starts_self, same_self}
use Rattle.wf_meant.specs.ActionTree.{ActionTree, action, action_after, action_kind, action_number, KindTree, compose, connector, wait}
use Rattle.wf_meant.specs.ActionTree.{response, terminate, select, query, join, parse_json, initialize, set_to, increment, decrement}
use Rattle.wf_meant.specs.ActionTree.{append_array, append_string, scope, branch, switch, switch_else, foreach, until, ActionTrees}
use Rattle.wf_meant.specs.ActionTree.{no_actions, action_then, CaseTrees, no_cases, case_then, actions_in}
use Rattle.wf_meant.specs.AllActions.{all_actions, cases_actions, has_number, kind_actions}
use Rattle.wf_meant.specs.Layered.{layered, layered_cases, layered_kind}
use Rattle.wf_record.specs.declared.status.Status.{Status}
use Rattle.wf_meant.proofs.PrefixLemmas.{starts_front}
use Rattle.wf_val.specs.ValueTree.{ValueTree, null, boolean, list, trees}
use Rattle.wf_meant.specs.Containers.{any_iteration_failed, any_terminated, case_status, close_branch, close_foreach, close_until, closed}
use Rattle.wf_meant.specs.Containers.{closed_as, cut_short, has_succeeded, is_failed, is_terminate, last_status, iterations_value}
use Rattle.wf_meant.specs.Containers.{status_of, unless_cut}
use Rattle.wf_record.specs.Record.{Row}
use Rattle.wf_meant.specs.Decisions.{DecisionTree, nothing, held, chosen, each, too_many, faulty, taken}
use Rattle.wf_meant.specs.Verdicts.{VerdictTree}
use Rattle.wf_meant.specs.Status.{fails, graph_status, is_named, judge_found, judge_row}
use Rattle.wf_instance.proofs.LookLemmas.{In, all_joined, all_more, own_held, last_held}

pub any_same : {X : Type 0} (f h : X → Bool) (xs : List X) → ((x : X) → f x ≡ h x) → list_any f xs ≡ list_any h xs
any_same f h xs same i = list_any (λ x. same x i) xs

-- ---- the status of a graph

some_of : {X : Type 0} (test : X → Bool) (xs : List X) (x : X) → find test xs ≡ Some x → list_any test xs ≡ true
some_of test [] x is = absurd (cc)
some_of test (y ∷ ys) x is = elim (two (test y)) [
  | inl t ↦ or_first (test y) (list_any test ys) t
  | inr f ↦ or_second (test y) (list_any test ys) (some_of test ys x (sym (ap (λ (b : Bool). cond b (Some y) (find test ys)) f) ∙ is))
]

module _ (t u : Table Row) where
  -- the rows of the actions of a graph at these indexes
  abbrev SameOwn : List ActionTree → List ℕ → Type 0
  SameOwn graph at = (n : ℕ) → list_any (has_number n) graph ≡ true → t (address n at) ≡ u (address n at)

  fails_same : (graph : List ActionTree) (at : List ℕ) → SameOwn graph at → (far n : ℕ) → fails graph at t far n ≡ fails graph at u far n
  fails_same graph at same zero n = refl
  fails_same graph at same (suc far) n = go (find (has_number n) graph) refl (fails_same graph at same far)
    where
      go : (found : Option ActionTree) → find (has_number n) graph ≡ found
          → ((m : ℕ) → fails graph at t far m ≡ fails graph at u far m)
          → judge_found found (t (address n at)) (fails graph at t far) ≡ judge_found found (u (address n at)) (fails graph at u far)
      go None is deeper = refl
      go (Some a) is deeper = λ i. judge_row (same n (some_of (has_number n) graph a is) i)
          (list_any (λ need. deeper need.number i) (action_after a))

  pub status_same : (graph : List ActionTree) (at : List ℕ) → SameOwn graph at → graph_status graph at t ≡ graph_status graph at u
  status_same graph at same =
      ap (λ (b : Bool). if b then Status.Failed else Status.Succeeded)
      (any_same (λ a. not (is_named graph at t (action_number a)) && fails graph at t (length graph) (action_number a))
      (λ a. not (is_named graph at u (action_number a)) && fails graph at u (length graph) (action_number a)) graph
      (λ a. ap (λ (b : Bool). not (is_named graph at t (action_number a)) && b)
      (fails_same graph at same (length graph) (action_number a))))

-- ---- what stands in a container

own_one : (inside : ℕ → Bool) (as' : List ActionTree) (n : ℕ) → In inside as' → list_any (has_number n) as' ≡ true → inside n ≡ true
own_one inside [] n all e = absurd (true≢false (sym e))
own_one inside (a ∷ as') n all e = elim (two (nat_eq n (action_number a))) [
  | inl t ↦ subst (λ (m : ℕ). inside m ≡ true) (sym (eqb-true n (action_number a) t)) all.0
  | inr f ↦ own_one inside as' n all.1 (sym (ap (λ (b : Bool). b || list_any (has_number n) as') f) ∙ e)
]

mutual
  pub held_all : (graph : ActionTrees) → In (has (layered graph)) (all_actions graph)
  held_all no_actions = tt
  held_all (action_then (action name number pointer after kind tracked) rest) = (
    or_first (nat_eq number number || holds (layered_kind kind) number) (has (layered rest) number)
        (or_first (nat_eq number number) (holds (layered_kind kind) number) (same_self number)),
    all_joined (λ a. has (layered (action_then (action name number pointer after kind tracked) rest)) (action_number a) ≡ true)
        (kind_actions kind)
        (all_actions rest)
        (all_more (λ a. holds (layered_kind kind) (action_number a) ≡ true)
        (λ a. has (layered (action_then (action name number pointer after kind tracked) rest)) (action_number a) ≡ true) (kind_actions kind)
        (λ a h. or_first (nat_eq number (action_number a) || holds (layered_kind kind) (action_number a))
        (has (layered rest) (action_number a))
        (or_second (nat_eq number (action_number a)) (holds (layered_kind kind) (action_number a)) h)) (held_in kind))
        (all_more (λ a. has (layered rest) (action_number a) ≡ true)
        (λ a. has (layered (action_then (action name number pointer after kind tracked) rest)) (action_number a) ≡ true) (all_actions rest)
        (λ a h. or_second (nat_eq number (action_number a) || holds (layered_kind kind) (action_number a))
        (has (layered rest) (action_number a)) h)
        (held_all rest)),
  )

  pub held_in : (kind : KindTree) → In (holds (layered_kind kind)) (kind_actions kind)
  held_in (compose inputs) = tt
  held_in (connector inputs policy) = tt
  held_in (wait inputs) = tt
  held_in (response inputs) = tt
  held_in (terminate inputs) = tt
  held_in (select from item) = tt
  held_in (query from filter) = tt
  held_in (join from with') = tt
  held_in (parse_json content schema) = tt
  held_in (initialize variables) = tt
  held_in (set_to name value) = tt
  held_in (increment name value) = tt
  held_in (decrement name value) = tt
  held_in (append_array name value) = tt
  held_in (append_string name value) = tt
  held_in (scope graph) = held_all graph
  held_in (branch test yes' no') =
      all_joined (λ a. holds (layered_kind (branch test yes' no')) (action_number a) ≡ true) (all_actions yes') (all_actions no')
      (all_more (λ a. has (layered yes') (action_number a) ≡ true)
      (λ a. holds (layered_kind (branch test yes' no')) (action_number a) ≡ true)
      (all_actions yes') (λ a h. or_first (has (layered yes') (action_number a)) (has (layered no') (action_number a) || false) h)
      (held_all yes'))
      (all_more (λ a. has (layered no') (action_number a) ≡ true)
      (λ a. holds (layered_kind (branch test yes' no')) (action_number a) ≡ true)
      (all_actions no') (λ a h. or_second (has (layered yes') (action_number a)) (has (layered no') (action_number a) || false)
      (or_first (has (layered no') (action_number a)) false h)) (held_all no'))
  held_in (switch on cases) = held_cases cases (layers.branch layers.done layers.no_branch)
  held_in (switch_else on cases default) =
      all_joined (λ a. holds (layered_kind (switch_else on cases default)) (action_number a) ≡ true) (cases_actions cases)
      (all_actions default)
      (held_cases cases (layers.branch (layered default) layers.no_branch))
      (all_more (λ a. has (layered default) (action_number a) ≡ true)
      (λ a. holds (layered_kind (switch_else on cases default)) (action_number a) ≡ true)
      (all_actions default) (λ a h. last_held cases (layered default) (action_number a) h) (held_all default))
  held_in (foreach items repetitions graph) = held_all graph
  held_in (until test count fails graph) = held_all graph

  pub held_cases : (cases : CaseTrees) (last : Branches) → In (has_any (layered_cases cases last)) (cases_actions cases)
  held_cases no_cases last = tt
  held_cases (case_then name value graph rest) last =
      all_joined (λ a. has_any (layered_cases (case_then name value graph rest) last) (action_number a) ≡ true) (all_actions graph)
      (cases_actions rest)
      (all_more (λ a. has (layered graph) (action_number a) ≡ true)
      (λ a. has_any (layered_cases (case_then name value graph rest) last) (action_number a) ≡ true) (all_actions graph)
      (λ a h. or_first (has (layered graph) (action_number a)) (has_any (layered_cases rest last) (action_number a)) h) (held_all graph))
      (all_more (λ a. has_any (layered_cases rest last) (action_number a) ≡ true)
      (λ a. has_any (layered_cases (case_then name value graph rest) last) (action_number a) ≡ true) (cases_actions rest)
      (λ a h. or_second (has (layered graph) (action_number a)) (has_any (layered_cases rest last) (action_number a)) h)
      (held_cases rest last))

-- ---- rows of containers

module _ (t u : Table Row) where
  terminated_same : (inside : ℕ → Bool) (as' : List ActionTree) (at : List ℕ) → In inside as'
      → ((n : ℕ) → inside n ≡ true → t (address n at) ≡ u (address n at)) → any_terminated as' at t ≡ any_terminated as' at u
  terminated_same inside [] at all same = refl
  terminated_same inside (a ∷ as') at all same = λ i.
      (is_terminate (action_kind a) && has_succeeded (same (action_number a) all.0 i)) || terminated_same inside as' at all.1 same i

  -- two tables with the same rows of all that stands in the graph, at indexes that begin with these
  abbrev SameIn : Graph → List ℕ → Type 0
  SameIn g at = (n : ℕ) (js : List ℕ) → has g n ≡ true → starts at js ≡ true → t (address n js) ≡ u (address n js)

  graph_same : (graph : ActionTrees) (at js : List ℕ) → SameIn (layered graph) at → starts at js ≡ true
      → status_of js t graph ≡ status_of js u graph
  graph_same graph at js same begins =
      status_same t u (actions_in graph) js (λ n own. same n js
      (own_one (has (layered graph)) (actions_in graph) n (own_held graph) own) begins)

  cut_same : (kind : KindTree) (at : List ℕ) (v : ValueTree) (one other : Status)
      → ((n : ℕ) → holds (layered_kind kind) n ≡ true → t (address n at) ≡ u (address n at)) → one ≡ other
      → unless_cut at t kind v one ≡ unless_cut at u kind v other
  cut_same kind at v one other same status = λ i.
      if terminated_same (holds (layered_kind kind)) (kind_actions kind) at (held_in kind) same i then cut_short v else closed_as
      (status i) v null

  branch_same : (kind : KindTree) (at : List ℕ) (one other : ℕ → Status) (decision : DecisionTree)
      → ((n : ℕ) → holds (layered_kind kind) n ≡ true → t (address n at) ≡ u (address n at)) → ((k : ℕ) → one k ≡ other k)
      → close_branch at t kind one decision ≡ close_branch at u kind other decision
  branch_same kind at one other nothing same status = cut_same kind at null Status.Succeeded Status.Succeeded same refl
  branch_same kind at one other (held b) same status =
      cut_same kind at (boolean b) (one (taken (held b))) (other (taken (held b))) same (status (taken (held b)))
  branch_same kind at one other (chosen v n) same status = cut_same kind at v (one n) (other n) same (status n)
  branch_same kind at one other (each ts) same status = cut_same kind at null Status.Succeeded Status.Succeeded same refl
  branch_same kind at one other too_many same status = cut_same kind at null Status.Succeeded Status.Succeeded same refl
  branch_same kind at one other (faulty f) same status = refl

  cases_same : (cases : CaseTrees) (last : Branches) (at : List ℕ)
      → ((n : ℕ) → has_any (layered_cases cases last) n ≡ true → t (address n at) ≡ u (address n at))
      → (one other : Status) → one ≡ other → (k : ℕ) → case_status at t cases k one ≡ case_status at u cases k other
  cases_same no_cases last at same one other status k = status
  cases_same (case_then name value graph rest) last at same one other status zero = status
  cases_same (case_then name value graph rest) last at same one other status (suc zero) =
      status_same t u (actions_in graph) at (λ n own. same n (or_first (has (layered graph) n) (has_any (layered_cases rest last) n)
      (own_one (has (layered graph)) (actions_in graph) n (own_held graph) own)))
  cases_same (case_then name value graph rest) last at same one other status (suc (suc k)) =
      cases_same rest last at (λ n h. same n (or_second (has (layered graph) n) (has_any (layered_cases rest last) n) h)) one other status
      (suc k)

  rounds_same : (graph : ActionTrees) (at : List ℕ) → SameIn (layered graph) at → (n : ℕ)
      → any_iteration_failed graph at t n ≡ any_iteration_failed graph at u n
  rounds_same graph at same zero = refl
  rounds_same graph at same (suc n) = λ i.
      rounds_same graph at same n i || is_failed (graph_same graph at (at ++ n ∷ []) same (starts_front at (n ∷ [])) i)

  foreach_same : (graph : ActionTrees) (at : List ℕ) → SameIn (layered graph) at → (decision : DecisionTree)
      → close_foreach graph at t decision ≡ close_foreach graph at u decision
  foreach_same graph at same nothing = refl
  foreach_same graph at same (held b) = refl
  foreach_same graph at same (chosen v n) = refl
  foreach_same graph at same (each ts) =
      ap (λ (b : Bool). closed_as (if b then Status.Failed else Status.Succeeded) (list (trees ts)) null)
      (rounds_same graph at same (length ts))
  foreach_same graph at same too_many = refl
  foreach_same graph at same (faulty f) = refl

  last_same : (graph : ActionTrees) (at : List ℕ) → SameIn (layered graph) at → (n : ℕ)
      → last_status graph at t n ≡ last_status graph at u n
  last_same graph at same zero = refl
  last_same graph at same (suc n) = graph_same graph at (at ++ n ∷ []) same (starts_front at (n ∷ []))

  -- THE LAW
  pub closed_same : (kind : KindTree) (at : List ℕ) (decision : DecisionTree) (n : ℕ) (v : Option VerdictTree)
      → AgreesInside (layered_kind kind) at t u → closed kind at decision n v t ≡ closed kind at decision n v u
  closed_same (scope graph) at decision n v same =
      cut_same (scope graph) at null (status_of at t graph) (status_of at u graph)
      (λ m h. same (address m at) (and_of (has (layered graph) m) (starts at at) h (starts_self at)))
      (graph_same graph at at (λ m js h s. same (address m js) (and_of (has (layered graph) m) (starts at js) h s)) (starts_self at))
  closed_same (branch test yes' no') at decision n v same =
      branch_same (branch test yes' no') at
      (λ k. if nat_eq k 1 then status_of at t yes' else status_of at t no')
      (λ k. if nat_eq k 1 then status_of at u yes' else status_of at u no') decision
      (λ m h. same (address m at) (and_of (holds (layered_kind (branch test yes' no')) m) (starts at at) h (starts_self at)))
      (λ k i. if nat_eq k 1
      then graph_same yes' at at (λ m js h s. same (address m js)
      (and_of (has (layered yes') m || (has (layered no') m || false)) (starts at js)
      (or_first (has (layered yes') m) (has (layered no') m || false) h) s)) (starts_self at) i
      else graph_same no' at at (λ m js h s. same (address m js)
      (and_of (has (layered yes') m || (has (layered no') m || false)) (starts at js)
      (or_second (has (layered yes') m) (has (layered no') m || false) (or_first (has (layered no') m) false h)) s)) (starts_self at) i)
  closed_same (switch on cases) at decision n v same =
      let here : (m : ℕ) → holds (layered_kind (switch on cases)) m ≡ true → t (address m at) ≡ u (address m at) =
      λ m h. same (address m at) (and_of (holds (layered_kind (switch on cases)) m) (starts at at) h (starts_self at)) in
      branch_same (switch on cases) at (λ k. case_status at t cases k Status.Succeeded)
      (λ k. case_status at u cases k Status.Succeeded) decision
      here (λ k. cases_same cases (layers.branch layers.done layers.no_branch) at here Status.Succeeded Status.Succeeded refl k)
  closed_same (switch_else on cases default) at decision n v same =
      let here : (m : ℕ) → holds (layered_kind (switch_else on cases default)) m ≡ true → t (address m at) ≡ u (address m at) =
      λ m h. same (address m at) (and_of (holds (layered_kind (switch_else on cases default)) m) (starts at at) h (starts_self at)) in
      branch_same (switch_else on cases default) at (λ k. case_status at t cases k (status_of at t default))
      (λ k. case_status at u cases k (status_of at u default)) decision here
      (λ k. cases_same cases (layers.branch (layered default) layers.no_branch) at here (status_of at t default) (status_of at u default)
      (graph_same default at at (λ m js h s. same (address m js)
      (and_of (holds (layered_kind (switch_else on cases default)) m) (starts at js)
      (last_held cases (layered default) m h) s)) (starts_self at)) k)
  closed_same (foreach items repetitions graph) at decision n v same =
      foreach_same graph at (λ m js h s. same (address m js) (and_of (has (layered graph) m) (starts at js) h s)) decision
  closed_same (until test count fails graph) at decision n v same =
      ap (λ (status : Status). close_until fails status (iterations_value n) v)
      (last_same graph at (λ m js h s. same (address m js) (and_of (has (layered graph) m) (starts at js) h s)) n)
  closed_same (compose inputs) at decision n v same = refl
  closed_same (connector inputs policy) at decision n v same = refl
  closed_same (wait inputs) at decision n v same = refl
  closed_same (response inputs) at decision n v same = refl
  closed_same (terminate inputs) at decision n v same = refl
  closed_same (select from item) at decision n v same = refl
  closed_same (query from filter) at decision n v same = refl
  closed_same (join from with') at decision n v same = refl
  closed_same (parse_json content schema) at decision n v same = refl
  closed_same (initialize variables) at decision n v same = refl
  closed_same (set_to name value) at decision n v same = refl
  closed_same (increment name value) at decision n v same = refl
  closed_same (decrement name value) at decision n v same = refl
  closed_same (append_array name value) at decision n v same = refl
  closed_same (append_string name value) at decision n v same = refl
