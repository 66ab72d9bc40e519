-- The numbers of the actions that are read are those of their names.
use Rattle.std.proofs.Common.{◌≡◌, ℕ, ◌≤◌, Bool, true, false, List, [], ◌∷◌, ◌++◌, Option, Some, None, length, map, bytes_eq, refl, sym, ap, ◌∙◌, arith}
use Rattle.std.specs.Prelude.{if◌then◌else◌, codes, unwrap_or}
use Rattle.std.specs.List.{count_by}
use Rattle.std.proofs.lemmas.List.{map-append}
use Rattle.std.proofs.lemmas.List.Sums.{count_by-le-length}
use Rattle.wf_val.specs.ValueTree.{ValueTree, null, boolean, number, text, list, object, MemberTrees, no_members, member_then}
use Rattle.wf_form.specs.Pointer.{member_step}
use Rattle.wf_leaves.specs.ActionType.{type_of}
use Rattle.wf_leaves.specs.KindsActionType.{ActionType}
use Rattle.wf_def.specs.ActionTree.{ActionTrees, no_actions, CaseTree, case_trees}
use Rattle.wf_def.specs.Names.{cases_names, graph_names, kind_names}
use Rattle.wf_reading.specs.Facts.{cases_numbers, graph_numbers, kind_numbers}
use Rattle.wf_reading.specs.Graphs.{branch_in, branch_of, cases_in, cases_of, each_case, graph_in, graph_of, kind_at, kind_with, switch_of}
use Rattle.wf_reading.specs.Meant.{top_at}
use Rattle.wf_reading.specs.Numbers.{is_below, number_among}

module _ (number_of : List ℕ → ℕ) where
  abbrev numbers : List (List ℕ) → List ℕ
  numbers ns = map number_of ns

  joined : (a b : List ℕ) (xs ys : List (List ℕ)) → a ≡ numbers xs → b ≡ numbers ys → a ++ b ≡ numbers (xs ++ ys)
  joined a b xs ys one other = ap (λ (zs : List ℕ). zs ++ b) one ∙ ap (λ (zs : List ℕ). numbers xs ++ zs) other ∙ sym (map-append number_of xs ys)

  -- whatever a value stands for
  record AreNumbered (t : ValueTree) : Type 0 where
    graph : (p : List ℕ) → graph_numbers (graph_of number_of p t) ≡ numbers (graph_names (graph_of number_of p t))
    kind : (q : List ℕ) → kind_numbers (kind_at number_of q t) ≡ numbers (kind_names (kind_at number_of q t))
    branch : (p : List ℕ) → graph_numbers (branch_of number_of p t) ≡ numbers (graph_names (branch_of number_of p t))
    cases : (p : List ℕ) → cases_numbers (case_trees (cases_of number_of p t)) ≡ numbers (cases_names (case_trees (cases_of number_of p t)))

  abbrev AllNumbered : MemberTrees → Type 0
  AllNumbered no_members = Unit {0}
  AllNumbered (member_then k t ms) = AreNumbered t × AllNumbered ms

  abbrev OptionNumbered : Option ActionTrees → Type 0
  OptionNumbered None = Unit {0}
  OptionNumbered (Some g) = graph_numbers g ≡ numbers (graph_names g)

  abbrev GraphNumbered : ActionTrees → Type 0
  GraphNumbered g = graph_numbers g ≡ numbers (graph_names g)

  abbrev CasesNumbered : List CaseTree → Type 0
  CasesNumbered cs = cases_numbers (case_trees cs) ≡ numbers (cases_names (case_trees cs))

  of_graph_in : (key p : List ℕ) (ms : MemberTrees) → AllNumbered ms → GraphNumbered (graph_in number_of key p ms)
  of_graph_in key p no_members all = refl
  of_graph_in key p (member_then k t ms) all = elim (bytes_eq key k) as (λ (b : Bool). GraphNumbered (if b then graph_of number_of (p ++ member_step key) t else graph_in number_of key p ms)) [
    | true ↦ all.0.graph (p ++ member_step key)
    | false ↦ of_graph_in key p ms all.1
  ]

  of_branch_in : (key p : List ℕ) (ms : MemberTrees) → AllNumbered ms → OptionNumbered (branch_in number_of key p ms)
  of_branch_in key p no_members all = tt
  of_branch_in key p (member_then k t ms) all = elim (bytes_eq key k) as (λ (b : Bool). OptionNumbered (if b then Some (branch_of number_of (p ++ member_step key) t) else branch_in number_of key p ms)) [
    | true ↦ all.0.branch (p ++ member_step key)
    | false ↦ of_branch_in key p ms all.1
  ]

  of_cases_in : (key p : List ℕ) (ms : MemberTrees) → AllNumbered ms → CasesNumbered (cases_in number_of key p ms)
  of_cases_in key p no_members all = refl
  of_cases_in key p (member_then k t ms) all = elim (bytes_eq key k) as (λ (b : Bool). CasesNumbered (if b then cases_of number_of (p ++ member_step key) t else cases_in number_of key p ms)) [
    | true ↦ all.0.cases (p ++ member_step key)
    | false ↦ of_cases_in key p ms all.1
  ]

  of_actions : (p : List ℕ) (ms : MemberTrees) → AllNumbered ms → GraphNumbered (graph_of number_of p (object ms))
  of_actions p no_members all = refl
  of_actions p (member_then k t ms) all = ap (λ (ns : List ℕ). number_of k ∷ ns)
      (joined (kind_numbers (kind_at number_of (p ++ member_step k) t)) (graph_numbers (graph_of number_of p (object ms)))
      (kind_names (kind_at number_of (p ++ member_step k) t)) (graph_names (graph_of number_of p (object ms))) (all.0.kind (p ++ member_step k)) (of_actions p ms all.1))

  of_each : (p : List ℕ) (ms : MemberTrees) → AllNumbered ms → CasesNumbered (each_case number_of p ms)
  of_each p no_members all = refl
  of_each p (member_then k t ms) all =
      joined (graph_numbers (branch_of number_of (p ++ member_step k) t)) (cases_numbers (case_trees (each_case number_of p ms)))
      (graph_names (branch_of number_of (p ++ member_step k) t)) (cases_names (case_trees (each_case number_of p ms))) (all.0.branch (p ++ member_step k)) (of_each p ms all.1)

  or_none : (g : Option ActionTrees) → OptionNumbered g → GraphNumbered (unwrap_or g no_actions)
  or_none None is = refl
  or_none (Some g) is = is

  of_switch : (t : ValueTree) (cs : List CaseTree) (g : Option ActionTrees) → OptionNumbered g → CasesNumbered cs
      → kind_numbers (switch_of t cs g) ≡ numbers (kind_names (switch_of t cs g))
  of_switch t cs None is cases = cases
  of_switch t cs (Some g) is cases = joined (cases_numbers (case_trees cs)) (graph_numbers g) (cases_names (case_trees cs)) (graph_names g) cases is

  of_kind : (type' : Option ActionType) (q : List ℕ) (t : ValueTree) (ms : MemberTrees) → AllNumbered ms
      → kind_numbers (kind_with type' t (graph_in number_of (codes "actions") q ms) (branch_in number_of (codes "else") q ms) (cases_in number_of (codes "cases") q ms) (branch_in number_of (codes "default") q ms))
      ≡ numbers (kind_names (kind_with type' t (graph_in number_of (codes "actions") q ms) (branch_in number_of (codes "else") q ms) (cases_in number_of (codes "cases") q ms) (branch_in number_of (codes "default") q ms)))
  of_kind None q t ms all = refl
  of_kind (Some ActionType.Compose) q t ms all = refl
  of_kind (Some ActionType.Connector) q t ms all = refl
  of_kind (Some ActionType.Wait) q t ms all = refl
  of_kind (Some ActionType.Response) q t ms all = refl
  of_kind (Some ActionType.Terminate) q t ms all = refl
  of_kind (Some ActionType.Select) q t ms all = refl
  of_kind (Some ActionType.Query) q t ms all = refl
  of_kind (Some ActionType.Join) q t ms all = refl
  of_kind (Some ActionType.ParseJson) q t ms all = refl
  of_kind (Some ActionType.InitializeVariable) q t ms all = refl
  of_kind (Some ActionType.SetVariable) q t ms all = refl
  of_kind (Some ActionType.IncrementVariable) q t ms all = refl
  of_kind (Some ActionType.DecrementVariable) q t ms all = refl
  of_kind (Some ActionType.AppendToArrayVariable) q t ms all = refl
  of_kind (Some ActionType.AppendToStringVariable) q t ms all = refl
  of_kind (Some ActionType.Scope) q t ms all = of_graph_in (codes "actions") q ms all
  of_kind (Some ActionType.If) q t ms all =
      joined (graph_numbers (graph_in number_of (codes "actions") q ms)) (graph_numbers (unwrap_or (branch_in number_of (codes "else") q ms) no_actions))
      (graph_names (graph_in number_of (codes "actions") q ms)) (graph_names (unwrap_or (branch_in number_of (codes "else") q ms) no_actions))
      (of_graph_in (codes "actions") q ms all) (or_none (branch_in number_of (codes "else") q ms) (of_branch_in (codes "else") q ms all))
  of_kind (Some ActionType.Switch) q t ms all =
      of_switch t (cases_in number_of (codes "cases") q ms) (branch_in number_of (codes "default") q ms) (of_branch_in (codes "default") q ms all) (of_cases_in (codes "cases") q ms all)
  of_kind (Some ActionType.Foreach) q t ms all = of_graph_in (codes "actions") q ms all
  of_kind (Some ActionType.Until) q t ms all = of_graph_in (codes "actions") q ms all

  mutual
    numbered : (t : ValueTree) → AreNumbered t
    numbered null = record { graph = λ p. refl; kind = λ q. refl; branch = λ p. refl; cases = λ p. refl }
    numbered (boolean b) = record { graph = λ p. refl; kind = λ q. refl; branch = λ p. refl; cases = λ p. refl }
    numbered (number n) = record { graph = λ p. refl; kind = λ q. refl; branch = λ p. refl; cases = λ p. refl }
    numbered (text s) = record { graph = λ p. refl; kind = λ q. refl; branch = λ p. refl; cases = λ p. refl }
    numbered (list ts) = record { graph = λ p. refl; kind = λ q. refl; branch = λ p. refl; cases = λ p. refl }
    numbered (object ms) = record {
      graph = λ p. of_actions p ms (all_numbered ms);
      kind = λ q. of_kind (type_of (object ms)) q (object ms) ms (all_numbered ms);
      branch = λ p. of_graph_in (codes "actions") p ms (all_numbered ms);
      cases = λ p. of_each p ms (all_numbered ms);
    }

    all_numbered : (ms : MemberTrees) → AllNumbered ms
    all_numbered no_members = tt
    all_numbered (member_then k t ms) = (numbered t, all_numbered ms)

  pub top-numbered : (o : Option ValueTree) → GraphNumbered (top_at number_of o)
  top-numbered None = refl
  top-numbered (Some t) = (numbered t).graph (codes "/actions")

-- among few names no number is cut
pub few-uncut : (names : List (List ℕ)) (k : List ℕ) → length names ≤ 500 → number_among names k ≡ count_by (is_below k) names
few-uncut names k few = omega (arith, count_by-le-length (is_below k) names)

pub map-uncut : (names ns : List (List ℕ)) → length names ≤ 500 → map (number_among names) ns ≡ map (λ k. count_by (is_below k) names) ns
map-uncut names [] few = refl
map-uncut names (n ∷ ns) few = ap (λ (x : ℕ). x ∷ map (number_among names) ns) (few-uncut names n few) ∙ ap (λ (xs : List ℕ). count_by (is_below n) names ∷ xs) (map-uncut names ns few)
