-- The actions that are read are those that the rules look at, in the same order.
use Rattle.std.proofs.Common.{◌≡◌, ℕ, Bool, true, false, List, [], ◌∷◌, ◌++◌, Option, Some, None, bytes_eq, refl, sym, ap, ◌∙◌, append-nil}
use Rattle.std.specs.Prelude.{if◌then◌else◌, codes, unwrap_or}
use Rattle.std.proofs.lemmas.List.{map-append}
use Rattle.wf_val.specs.Get.{get, name_of, value_of}
use Rattle.wf_val.specs.NameOrder.{IsInNameOrder}
use Rattle.wf_val.specs.ValueTree.{ValueTree, null, boolean, number, text, list, object, MemberTrees, no_members, member_then, pairs}
use Rattle.wf_val.specs.WellFormed.{IsWellFormed, AllMembersWellFormed}
use Rattle.wf_form.specs.Pointer.{member_step}
use Rattle.wf_leaves.specs.ActionType.{type_of}
use Rattle.wf_leaves.specs.KindsActionType.{ActionType}
use Rattle.wf_form.specs.Actions.{actions_among, actions_in, in_part}
use Rattle.wf_form.specs.Role.{child, deeper, graph_at, holder_by, holder_of}
use Rattle.wf_form.specs.declared.role.Role.{Role}
use Rattle.wf_form.specs.declared.role.Holder.{Holder}
use Rattle.wf_def.specs.ActionTree.{ActionTrees, no_actions, action_trees, CaseTree, case_trees}
use Rattle.wf_def.specs.Names.{cases_names, graph_names, kind_names}
use Rattle.wf_reading.specs.Graphs.{actions_of, branch_in, branch_of, cases_in, cases_of, each_case, graph_in, graph_of, kind_at, kind_with, switch_of}
use Rattle.wf_reading.specs.Meant.{names_of, top_at}
use Rattle.wf_reading.proofs.GraphLemmas.{value_of-here, value_of-later}
use Rattle.wf_reading.proofs.PartLemmas.{AllParts, bytes_eq-sym, names, one_part, two_parts, under}

abbrev option_names : Option ActionTrees → List (List ℕ)
option_names None = []
option_names (Some g) = graph_names g

module _ (number_of : List ℕ → ℕ) where
  -- a value stands for the same actions to the rules and to the reader, whatever it stands for itself
  pub record Same (t : ValueTree) : Type 0 where
    pub graph : (l : ℕ) (k p : List ℕ) → names (actions_in (Role.Graph l) k t) ≡ graph_names (graph_of number_of p t)
    pub action : (l : ℕ) (k q : List ℕ) → names (actions_in (Role.Action l) k t) ≡ k ∷ kind_names (kind_at number_of q t)
    pub branch : (l : ℕ) (k p : List ℕ) → names (actions_in (Role.Branch l) k t) ≡ graph_names (branch_of number_of p t)
    pub case : (l : ℕ) (k p : List ℕ) → names (actions_in (Role.Case l) k t) ≡ graph_names (branch_of number_of p t)
    pub cases : (l : ℕ) (k p : List ℕ) → names (actions_in (Role.Cases l) k t) ≡ cases_names (case_trees (cases_of number_of p t))

  abbrev AllSame : MemberTrees → Type 0
  AllSame no_members = Unit {0}
  AllSame (member_then k t ms) = Same t × AllSame ms

  -- parts of members, whose pointer doesn't matter
  graphs_of : (l : ℕ) (p : List ℕ) (ms : MemberTrees) → AllSame ms → AllParts (Role.Graph l) (λ t. graph_names (graph_of number_of p t)) ms
  graphs_of l p no_members all = tt
  graphs_of l p (member_then k t ms) all = (all.0.graph l k p, graphs_of l p ms all.1)

  branches_of : (l : ℕ) (p : List ℕ) (ms : MemberTrees) → AllSame ms → AllParts (Role.Branch l) (λ t. graph_names (branch_of number_of p t)) ms
  branches_of l p no_members all = tt
  branches_of l p (member_then k t ms) all = (all.0.branch l k p, branches_of l p ms all.1)

  cases_in_all : (l : ℕ) (p : List ℕ) (ms : MemberTrees) → AllSame ms → AllParts (Role.Cases l) (λ t. cases_names (case_trees (cases_of number_of p t))) ms
  cases_in_all l p no_members all = tt
  cases_in_all l p (member_then k t ms) all = (all.0.cases l k p, cases_in_all l p ms all.1)

  graph_in-under : (key p : List ℕ) (ms : MemberTrees) → graph_names (graph_in number_of key p ms) ≡ under key (λ t. graph_names (graph_of number_of (p ++ member_step key) t)) ms
  graph_in-under key p no_members = refl
  graph_in-under key p (member_then k t ms) = elim (bytes_eq key k) as (λ b. bytes_eq key k ≡ b
      → graph_names (graph_in number_of key p (member_then k t ms)) ≡ under key (λ t. graph_names (graph_of number_of (p ++ member_step key) t)) (member_then k t ms)) [
        | true ↦ λ is. rw is refl
        | false ↦ λ is. rw is (graph_in-under key p ms)
      ] refl

  branch_in-under : (key p : List ℕ) (ms : MemberTrees) → option_names (branch_in number_of key p ms) ≡ under key (λ t. graph_names (branch_of number_of (p ++ member_step key) t)) ms
  branch_in-under key p no_members = refl
  branch_in-under key p (member_then k t ms) = elim (bytes_eq key k) as (λ b. bytes_eq key k ≡ b
      → option_names (branch_in number_of key p (member_then k t ms)) ≡ under key (λ t. graph_names (branch_of number_of (p ++ member_step key) t)) (member_then k t ms)) [
        | true ↦ λ is. rw is refl
        | false ↦ λ is. rw is (branch_in-under key p ms)
      ] refl

  cases_in-under : (key p : List ℕ) (ms : MemberTrees)
      → cases_names (case_trees (cases_in number_of key p ms)) ≡ under key (λ t. cases_names (case_trees (cases_of number_of (p ++ member_step key) t))) ms
  cases_in-under key p no_members = refl
  cases_in-under key p (member_then k t ms) = elim (bytes_eq key k) as (λ b. bytes_eq key k ≡ b
      → cases_names (case_trees (cases_in number_of key p (member_then k t ms))) ≡ under key (λ t. cases_names (case_trees (cases_of number_of (p ++ member_step key) t))) (member_then k t ms)) [
        | true ↦ λ is. rw is refl
        | false ↦ λ is. rw is (cases_in-under key p ms)
      ] refl

  option_names-or : (g : Option ActionTrees) → option_names g ≡ graph_names (unwrap_or g no_actions)
  option_names-or None = refl
  option_names-or (Some g) = refl

  switch_names : (t : ValueTree) (cs : List CaseTree) (g : Option ActionTrees) → kind_names (switch_of t cs g) ≡ cases_names (case_trees cs) ++ option_names g
  switch_names t cs None = sym (append-nil (cases_names (case_trees cs)))
  switch_names t cs (Some g) = refl

  -- the members of a graph, and of cases
  of_graph : (l : ℕ) (h : Holder) (p : List ℕ) (ms : MemberTrees) → AllSame ms
      → names (actions_among (Role.Graph l) h ms) ≡ graph_names (action_trees (actions_of number_of p ms))
  of_graph l h p no_members all = refl
  of_graph l h p (member_then k t ms) all =
      map-append name_of (actions_in (Role.Action l) k t) (actions_among (Role.Graph l) h ms)
      ∙ ap (λ (xs : List (List ℕ)). xs ++ names (actions_among (Role.Graph l) h ms)) (all.0.action l k (p ++ member_step k))
      ∙ ap (λ (ys : List (List ℕ)). k ∷ (kind_names (kind_at number_of (p ++ member_step k) t) ++ ys)) (of_graph l h p ms all.1)

  of_cases : (l : ℕ) (h : Holder) (p : List ℕ) (ms : MemberTrees) → AllSame ms
      → names (actions_among (Role.Cases l) h ms) ≡ cases_names (case_trees (each_case number_of p ms))
  of_cases l h p no_members all = refl
  of_cases l h p (member_then k t ms) all =
      map-append name_of (actions_in (Role.Case l) k t) (actions_among (Role.Cases l) h ms)
      ∙ ap (λ (xs : List (List ℕ)). xs ++ names (actions_among (Role.Cases l) h ms)) (all.0.case l k (p ++ member_step k))
      ∙ ap (λ (ys : List (List ℕ)). graph_names (branch_of number_of (p ++ member_step k) t) ++ ys) (of_cases l h p ms all.1)

  no_graph_at : (role : Role) (h : Holder) (l : ℕ) (same : (k : List ℕ) → child role h k ≡ graph_at l k) (k : List ℕ) (t : ValueTree)
      → bytes_eq (codes "actions") k ≡ false → names (in_part (child role h k) (λ r. actions_in r k t)) ≡ []
  no_graph_at role h l same k t other = rw (same k, bytes_eq-sym k (codes "actions") ∙ other) refl

  -- the members of what holds one graph
  of_holder : (role : Role) (h : Holder) (l : ℕ) (same : (k : List ℕ) → child role h k ≡ graph_at l k) (p : List ℕ) (ms : MemberTrees)
      → IsInNameOrder name_of (pairs ms) → AllSame ms → names (actions_among role h ms) ≡ graph_names (graph_in number_of (codes "actions") p ms)
  of_holder role h l same p ms order all =
      one_part role h (codes "actions") (Role.Graph (deeper l)) (λ t. graph_names (graph_of number_of (p ++ member_step (codes "actions")) t))
      (same (codes "actions")) (no_graph_at role h l same) ms order (graphs_of (deeper l) (p ++ member_step (codes "actions")) ms all)
      ∙ sym (graph_in-under (codes "actions") p ms)

  of_nothing : (l : ℕ) (ms : MemberTrees) → names (actions_among (Role.Action l) Holder.Nothing ms) ≡ []
  of_nothing l no_members = refl
  of_nothing l (member_then k t ms) = of_nothing l ms

  no_branch_at : (l : ℕ) (k : List ℕ) (t : ValueTree) → bytes_eq (codes "actions") k ≡ false → bytes_eq (codes "else") k ≡ false
      → names (in_part (child (Role.Action l) Holder.Two k) (λ r. actions_in r k t)) ≡ []
  no_branch_at l k t one other = rw (bytes_eq-sym k (codes "else") ∙ other, bytes_eq-sym k (codes "actions") ∙ one) refl

  of_if : (l : ℕ) (p : List ℕ) (ms : MemberTrees) → IsInNameOrder name_of (pairs ms) → AllSame ms
      → names (actions_among (Role.Action l) Holder.Two ms)
      ≡ graph_names (graph_in number_of (codes "actions") p ms) ++ graph_names (unwrap_or (branch_in number_of (codes "else") p ms) no_actions)
  of_if l p ms order all =
      two_parts (Role.Action l) Holder.Two (codes "actions") (codes "else") refl (Role.Graph (deeper l)) (Role.Branch l)
      (λ t. graph_names (graph_of number_of (p ++ member_step (codes "actions")) t)) (λ t. graph_names (branch_of number_of (p ++ member_step (codes "else")) t))
      refl refl (no_branch_at l) ms order (graphs_of (deeper l) (p ++ member_step (codes "actions")) ms all) (branches_of l (p ++ member_step (codes "else")) ms all)
      ∙ ap (λ (xs : List (List ℕ)). xs ++ under (codes "else") (λ t. graph_names (branch_of number_of (p ++ member_step (codes "else")) t)) ms) (sym (graph_in-under (codes "actions") p ms))
      ∙ ap (λ (ys : List (List ℕ)). graph_names (graph_in number_of (codes "actions") p ms) ++ ys)
      (sym (branch_in-under (codes "else") p ms) ∙ option_names-or (branch_in number_of (codes "else") p ms))

  no_case_at : (l : ℕ) (k : List ℕ) (t : ValueTree) → bytes_eq (codes "cases") k ≡ false → bytes_eq (codes "default") k ≡ false
      → names (in_part (child (Role.Action l) Holder.Many k) (λ r. actions_in r k t)) ≡ []
  no_case_at l k t one other = rw (bytes_eq-sym k (codes "cases") ∙ one, bytes_eq-sym k (codes "default") ∙ other) refl

  of_switch : (l : ℕ) (p : List ℕ) (ms : MemberTrees) → IsInNameOrder name_of (pairs ms) → AllSame ms
      → names (actions_among (Role.Action l) Holder.Many ms)
      ≡ cases_names (case_trees (cases_in number_of (codes "cases") p ms)) ++ option_names (branch_in number_of (codes "default") p ms)
  of_switch l p ms order all =
      two_parts (Role.Action l) Holder.Many (codes "cases") (codes "default") refl (Role.Cases l) (Role.Branch l)
      (λ t. cases_names (case_trees (cases_of number_of (p ++ member_step (codes "cases")) t))) (λ t. graph_names (branch_of number_of (p ++ member_step (codes "default")) t))
      refl refl (no_case_at l) ms order (cases_in_all l (p ++ member_step (codes "cases")) ms all) (branches_of l (p ++ member_step (codes "default")) ms all)
      ∙ ap (λ (xs : List (List ℕ)). xs ++ under (codes "default") (λ t. graph_names (branch_of number_of (p ++ member_step (codes "default")) t)) ms) (sym (cases_in-under (codes "cases") p ms))
      ∙ ap (λ (ys : List (List ℕ)). cases_names (case_trees (cases_in number_of (codes "cases") p ms)) ++ ys) (sym (branch_in-under (codes "default") p ms))

  -- the members of an action, by its type
  of_action : (type' : Option ActionType) (l : ℕ) (q : List ℕ) (t : ValueTree) (ms : MemberTrees) → IsInNameOrder name_of (pairs ms) → AllSame ms
      → names (actions_among (Role.Action l) (holder_by type') ms)
      ≡ kind_names (kind_with type' t (graph_in number_of (codes "actions") q ms) (branch_in number_of (codes "else") q ms)
      (cases_in number_of (codes "cases") q ms) (branch_in number_of (codes "default") q ms))
  of_action None l q t ms order all = of_nothing l ms
  of_action (Some ActionType.Compose) l q t ms order all = of_nothing l ms
  of_action (Some ActionType.Connector) l q t ms order all = of_nothing l ms
  of_action (Some ActionType.Wait) l q t ms order all = of_nothing l ms
  of_action (Some ActionType.Response) l q t ms order all = of_nothing l ms
  of_action (Some ActionType.Terminate) l q t ms order all = of_nothing l ms
  of_action (Some ActionType.Select) l q t ms order all = of_nothing l ms
  of_action (Some ActionType.Query) l q t ms order all = of_nothing l ms
  of_action (Some ActionType.Join) l q t ms order all = of_nothing l ms
  of_action (Some ActionType.ParseJson) l q t ms order all = of_nothing l ms
  of_action (Some ActionType.InitializeVariable) l q t ms order all = of_nothing l ms
  of_action (Some ActionType.SetVariable) l q t ms order all = of_nothing l ms
  of_action (Some ActionType.IncrementVariable) l q t ms order all = of_nothing l ms
  of_action (Some ActionType.DecrementVariable) l q t ms order all = of_nothing l ms
  of_action (Some ActionType.AppendToArrayVariable) l q t ms order all = of_nothing l ms
  of_action (Some ActionType.AppendToStringVariable) l q t ms order all = of_nothing l ms
  of_action (Some ActionType.Scope) l q t ms order all = of_holder (Role.Action l) Holder.One l (λ k. refl) q ms order all
  of_action (Some ActionType.If) l q t ms order all = of_if l q ms order all
  of_action (Some ActionType.Switch) l q t ms order all = of_switch l q ms order all
      ∙ sym (switch_names t (cases_in number_of (codes "cases") q ms) (branch_in number_of (codes "default") q ms))
  of_action (Some ActionType.Foreach) l q t ms order all = of_holder (Role.Action l) Holder.One l (λ k. refl) q ms order all
  of_action (Some ActionType.Until) l q t ms order all = of_holder (Role.Action l) Holder.One l (λ k. refl) q ms order all

  same_object : (ms : MemberTrees) → IsInNameOrder name_of (pairs ms) → AllSame ms → Same (object ms)
  same_object ms order all = record {
    graph = λ l k p. of_graph l (holder_of (object ms)) p ms all;
    action = λ l k q. ap (λ (xs : List (List ℕ)). k ∷ xs) (of_action (type_of (object ms)) l q (object ms) ms order all);
    branch = λ l k p. of_holder (Role.Branch l) (holder_of (object ms)) l (λ q. refl) p ms order all;
    case = λ l k p. of_holder (Role.Case l) (holder_of (object ms)) l (λ q. refl) p ms order all;
    cases = λ l k p. of_cases l (holder_of (object ms)) p ms all;
  }

  mutual
    pub same : (t : ValueTree) → IsWellFormed t → Same t
    same null w = record { graph = λ l k p. refl; action = λ l k q. refl; branch = λ l k p. refl; case = λ l k p. refl; cases = λ l k p. refl }
    same (boolean b) w = record { graph = λ l k p. refl; action = λ l k q. refl; branch = λ l k p. refl; case = λ l k p. refl; cases = λ l k p. refl }
    same (number n) w = record { graph = λ l k p. refl; action = λ l k q. refl; branch = λ l k p. refl; case = λ l k p. refl; cases = λ l k p. refl }
    same (text s) w = record { graph = λ l k p. refl; action = λ l k q. refl; branch = λ l k p. refl; case = λ l k p. refl; cases = λ l k p. refl }
    same (list ts) w = record { graph = λ l k p. refl; action = λ l k q. refl; branch = λ l k p. refl; case = λ l k p. refl; cases = λ l k p. refl }
    same (object ms) w = same_object ms w.0 (all_same ms w.1)

    all_same : (ms : MemberTrees) → AllMembersWellFormed ms → AllSame ms
    all_same no_members w = tt
    all_same (member_then k t ms) w = (same t w.0.1, all_same ms w.1)

  -- ---- the sections of a definition

  of_unseen : (role : Role) (h : Holder) (is : (k : List ℕ) → child role h k ≡ None) (ms : MemberTrees) → names (actions_among role h ms) ≡ []
  of_unseen role h is no_members = refl
  of_unseen role h is (member_then k t ms) = rw (is k) (of_unseen role h is ms)

  of_section : (role part : Role) (h : Holder) (is : (k : List ℕ) → child role h k ≡ Some part)
      (none : (k : List ℕ) (t : ValueTree) → names (actions_in part k t) ≡ []) (ms : MemberTrees) → names (actions_among role h ms) ≡ []
  of_section role part h is none no_members = refl
  of_section role part h is none (member_then k t ms) =
      rw (is k) (map-append name_of (actions_in part k t) (actions_among role h ms)
      ∙ ap (λ (xs : List (List ℕ)). xs ++ names (actions_among role h ms)) (none k t) ∙ of_section role part h is none ms)

  in_parameter : (k : List ℕ) (t : ValueTree) → names (actions_in Role.Parameter k t) ≡ []
  in_parameter k null = refl
  in_parameter k (boolean b) = refl
  in_parameter k (number n) = refl
  in_parameter k (text s) = refl
  in_parameter k (list ts) = refl
  in_parameter k (object ms) = of_unseen Role.Parameter (holder_of (object ms)) (λ q. refl) ms

  in_trigger : (k : List ℕ) (t : ValueTree) → names (actions_in Role.Trigger k t) ≡ []
  in_trigger k null = refl
  in_trigger k (boolean b) = refl
  in_trigger k (number n) = refl
  in_trigger k (text s) = refl
  in_trigger k (list ts) = refl
  in_trigger k (object ms) = of_unseen Role.Trigger (holder_of (object ms)) (λ q. refl) ms

  in_output : (k : List ℕ) (t : ValueTree) → names (actions_in Role.Output k t) ≡ []
  in_output k null = refl
  in_output k (boolean b) = refl
  in_output k (number n) = refl
  in_output k (text s) = refl
  in_output k (list ts) = refl
  in_output k (object ms) = of_unseen Role.Output (holder_of (object ms)) (λ q. refl) ms

  in_parameters : (k : List ℕ) (t : ValueTree) → names (actions_in Role.Parameters k t) ≡ []
  in_parameters k null = refl
  in_parameters k (boolean b) = refl
  in_parameters k (number n) = refl
  in_parameters k (text s) = refl
  in_parameters k (list ts) = refl
  in_parameters k (object ms) = of_section Role.Parameters Role.Parameter (holder_of (object ms)) (λ q. refl) in_parameter ms

  in_triggers : (k : List ℕ) (t : ValueTree) → names (actions_in Role.Triggers k t) ≡ []
  in_triggers k null = refl
  in_triggers k (boolean b) = refl
  in_triggers k (number n) = refl
  in_triggers k (text s) = refl
  in_triggers k (list ts) = refl
  in_triggers k (object ms) = of_section Role.Triggers Role.Trigger (holder_of (object ms)) (λ q. refl) in_trigger ms

  in_outputs : (k : List ℕ) (t : ValueTree) → names (actions_in Role.Outputs k t) ≡ []
  in_outputs k null = refl
  in_outputs k (boolean b) = refl
  in_outputs k (number n) = refl
  in_outputs k (text s) = refl
  in_outputs k (list ts) = refl
  in_outputs k (object ms) = of_section Role.Outputs Role.Output (holder_of (object ms)) (λ q. refl) in_output ms

  other_sections : (h : Holder) (k : List ℕ) (t : ValueTree) → bytes_eq (codes "actions") k ≡ false
      → names (in_part (child Role.Definition h k) (λ r. actions_in r k t)) ≡ []
  other_sections h k t other = rw (bytes_eq-sym k (codes "actions") ∙ other)
      (elim (bytes_eq k (codes "parameters")) as (λ (b : Bool). names (in_part (if b then Some Role.Parameters else (if bytes_eq k (codes "triggers") then Some Role.Triggers else (if bytes_eq k (codes "outputs") then Some Role.Outputs else None))) (λ r. actions_in r k t)) ≡ []) [
        | true ↦ in_parameters k t
        | false ↦ elim (bytes_eq k (codes "triggers")) as (λ (b : Bool). names (in_part (if b then Some Role.Triggers else (if bytes_eq k (codes "outputs") then Some Role.Outputs else None)) (λ r. actions_in r k t)) ≡ []) [
          | true ↦ in_triggers k t
          | false ↦ elim (bytes_eq k (codes "outputs")) as (λ (b : Bool). names (in_part (if b then Some Role.Outputs else None) (λ r. actions_in r k t)) ≡ []) [
            | true ↦ in_outputs k t
            | false ↦ refl
          ]
        ]
      ])

  top_at-under : (ms : MemberTrees) → graph_names (top_at number_of (value_of (codes "actions") (pairs ms))) ≡ under (codes "actions") (λ t. graph_names (graph_of number_of (codes "/actions") t)) ms
  top_at-under no_members = refl
  top_at-under (member_then k t ms) = elim (bytes_eq (codes "actions") k) as (λ b. bytes_eq (codes "actions") k ≡ b
      → graph_names (top_at number_of (value_of (codes "actions") (pairs (member_then k t ms)))) ≡ under (codes "actions") (λ u. graph_names (graph_of number_of (codes "/actions") u)) (member_then k t ms)) [
        | true ↦ λ is. rw is (ap (λ (o : Option ValueTree). graph_names (top_at number_of o)) (value_of-here (codes "actions") (k, t) (pairs ms) is))
        | false ↦ λ is. rw is (ap (λ (o : Option ValueTree). graph_names (top_at number_of o)) (value_of-later (codes "actions") (k, t) (pairs ms) is) ∙ top_at-under ms)
      ] refl

  -- the names of all actions of a definition are those of the graph that is read
  pub names_agree : (t : ValueTree) → IsWellFormed t → graph_names (top_at number_of (get (codes "actions") t)) ≡ names_of t
  names_agree null w = refl
  names_agree (boolean b) w = refl
  names_agree (number n) w = refl
  names_agree (text s) w = refl
  names_agree (list ts) w = refl
  names_agree (object ms) w = top_at-under ms
      ∙ sym (one_part Role.Definition (holder_of (object ms)) (codes "actions") (Role.Graph 1) (λ t. graph_names (graph_of number_of (codes "/actions") t))
      refl (other_sections (holder_of (object ms))) ms w.0 (graphs_of 1 (codes "/actions") ms (all_same ms w.1)))
