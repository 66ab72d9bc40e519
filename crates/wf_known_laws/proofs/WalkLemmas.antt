-- What follows for the graphs that a definition is read as, from a rule that it doesn't break: one walk along the values that the rule
-- looks at.
use Rattle.std.proofs.Common.{◌≡◌, ℕ, Bool, true, false, List, [], ◌++◌, Option, Some, None, map, option_map, bytes_eq, refl, sym, ap}
use Rattle.std.proofs.Common.{subst, ◌∙◌}
use Rattle.std.specs.Prelude.{if◌then◌else◌, codes, unwrap_or}
use Rattle.wf_val.specs.ValueTree.{ValueTree, null, boolean, number, text, list, object, MemberTrees, no_members, member_then, pairs}
use Rattle.wf_val.specs.Get.{get, name_of, value_of}
use Rattle.wf_val.specs.NameOrder.{IsInNameOrder}
use Rattle.wf_val.specs.WellFormed.{IsWellFormed, AllMembersWellFormed}
use Rattle.wf_template.specs.CondTree.{CondTree}
use Rattle.wf_template.specs.DataTree.{DataTree}
use Rattle.wf_template.specs.TemplateTree.{TemplateTree}
use Rattle.wf_json.specs.Pointer.{member_step}
use Rattle.wf_reading.specs.ActionType.{type_of}
use Rattle.wf_reading.specs.KindsActionType.{ActionType}
use Rattle.wf_reading.specs.Actions.{in_part}
use Rattle.wf_reading.specs.Judge.{judge}
use Rattle.wf_reading.specs.Places.{in_members, places}
use Rattle.wf_reading.specs.Role.{child, deeper, holder_by, holder_of}
use Rattle.wf_reading.specs.Whole.{Whole}
use Rattle.wf_reading.specs.FormRole.{Role}
use Rattle.wf_reading.specs.Holder.{Holder}
use Rattle.wf_reading.specs.Rule.{Rule}
use Rattle.wf_reading.specs.ActionTree.{KindTree, scope, branch, switch, switch_else, foreach, until, ActionTrees, no_actions, action_then}
use Rattle.wf_reading.specs.ActionTree.{CaseTree, case_trees, CaseTrees, no_cases, case_then}
use Rattle.wf_reading.specs.Graphs.{action_with, branch_in, branch_of, cases_in, cases_of, each_case, graph_in, graph_of, kind_at}
use Rattle.wf_reading.specs.Graphs.{kind_with, switch_of}
use Rattle.wf_reading.specs.Leaves.{leaf_of, nothing}
use Rattle.wf_reading.specs.Meant.{top_at}
use Rattle.wf_reading.proofs.GraphLemmas.{value_of-here, value_of-later}
use Rattle.wf_reading.proofs.PartLemmas.{equal_keys}
use Rattle.wf_reading.proofs.RunAfterLemmas.{append-first, append-second, map-none}

some_one : {X : Type 0} {x y : X} → Some x ≡ Some y → x ≡ y
some_one is = cc

module _ (rule : Rule) (whole : Whole) where
  -- what is asked of a definition at a value, and among members
  abbrev pub Fine : Role → List ℕ → ValueTree → Type 0
  Fine role key t = places rule whole role key t ≡ []

  abbrev pub AllFine : Role → Holder → MemberTrees → Type 0
  AllFine role holder ms = in_members rule whole role holder ms ≡ []

  members-fine : (role : Role) (key : List ℕ) (ms : MemberTrees) → Fine role key (object ms) → AllFine role (holder_of (object ms)) ms
  members-fine role key ms fine = append-second (judge rule whole role key (object ms))
      (in_members rule whole role (holder_of (object ms)) ms) fine

  abbrev own : Role → Holder → List ℕ → ValueTree → List (List ℕ)
  own role h k t = in_part (child role h k) (λ r. places rule whole r k t)

  first-fine : (role : Role) (h : Holder) (k : List ℕ) (t : ValueTree) (ms : MemberTrees) (part : Role) → child role h k ≡ Some part
      → AllFine role h (member_then k t ms) → Fine part k t
  first-fine role h k t ms part is fine =
      sym (ap (λ (o : Option Role). in_part o (λ r. places rule whole r k t)) is)
      ∙ map-none (λ (p : List ℕ). member_step k ++ p) (own role h k t)
      (append-first (map (λ (p : List ℕ). member_step k ++ p) (own role h k t)) (in_members rule whole role h ms) fine)

  rest-fine : (role : Role) (h : Holder) (k : List ℕ) (t : ValueTree) (ms : MemberTrees) → AllFine role h (member_then k t ms)
      → AllFine role h ms
  rest-fine role h k t ms fine = append-second (map (λ (p : List ℕ). member_step k ++ p) (own role h k t))
      (in_members rule whole role h ms) fine

  -- the value under a key
  found-fine : (role : Role) (h : Holder) (key k : List ℕ) (t : ValueTree) (ms : MemberTrees) (part : Role) → child role h key ≡ Some part
      → bytes_eq key k ≡ true → AllFine role h (member_then k t ms) → Fine part k t
  found-fine role h key k t ms part is same fine =
      first-fine role h k t ms part (ap (child role h) (sym (equal_keys key k same)) ∙ is) fine

  -- What is to be shown, by levels: of a graph, of actions in a row, of what an action does, and of cases.
  module _ (number_of : List ℕ → ℕ) (G L : ℕ → ActionTrees → Type 0) (K : ℕ → KindTree → Type 0) (C : ℕ → CaseTrees → Type 0) where
    pub record Steps : Type 0 where
      pub no_graph : (l : ℕ) → G l no_actions
      pub graph : (l : ℕ) (key p : List ℕ) (ms : MemberTrees) → IsInNameOrder name_of (pairs ms) → Fine (Role.Graph l) key (object ms)
          → L l (graph_of number_of p (object ms)) → G l (graph_of number_of p (object ms))
      pub none : (l : ℕ) → L l no_actions
      pub more : (l : ℕ) (k q : List ℕ) (t : ValueTree) (rest : ActionTrees) → Fine (Role.Action l) k t → K l (kind_at number_of q t)
          → L l rest
          → L l (action_then (action_with number_of k q t (kind_at number_of q t)) rest)
      pub leaf : (l : ℕ) (type' : ActionType) (t : ValueTree) → K l (leaf_of type' t)
      pub in_scope : (l : ℕ) (g : ActionTrees) → G (deeper l) g → K l (scope g)
      pub in_branch : (l : ℕ) (test : CondTree) (yes' no' : ActionTrees) → G (deeper l) yes' → G (deeper l) no' → K l (branch test yes' no')
      pub in_switch : (l : ℕ) (on : TemplateTree) (cs : CaseTrees) → C l cs → K l (switch on cs)
      pub in_default : (l : ℕ) (on : TemplateTree) (cs : CaseTrees) (g : ActionTrees) → C l cs → G (deeper l) g → K l (switch_else on cs g)
      pub in_foreach : (l : ℕ) (items : DataTree) (n : ℕ) (g : ActionTrees) → G (deeper l) g → K l (foreach items n g)
      pub in_until : (l : ℕ) (test : CondTree) (n : ℕ) (fails : Bool) (g : ActionTrees) → G (deeper l) g → K l (until test n fails g)
      pub no_case : (l : ℕ) → C l no_cases
      pub case : (l : ℕ) (n : List ℕ) (v : ValueTree) (g : ActionTrees) (rest : CaseTrees) → G (deeper l) g → C l rest
          → C l (case_then n v g rest)

    module _ (s : Steps) where
      -- of a value, whatever it stands for
      record Shown (t : ValueTree) : Type 0 where
        graph : (l : ℕ) (key p : List ℕ) → Fine (Role.Graph l) key t → G l (graph_of number_of p t)
        action : (l : ℕ) (key q : List ℕ) → Fine (Role.Action l) key t → K l (kind_at number_of q t)
        branch : (l : ℕ) (key p : List ℕ) → Fine (Role.Branch l) key t → G (deeper l) (branch_of number_of p t)
        case : (l : ℕ) (key p : List ℕ) → Fine (Role.Case l) key t → G (deeper l) (branch_of number_of p t)
        cases : (l : ℕ) (key p : List ℕ) → Fine (Role.Cases l) key t → C l (case_trees (cases_of number_of p t))

      abbrev AllShown : MemberTrees → Type 0
      AllShown no_members = Unit {0}
      AllShown (member_then k t ms) = Shown t × AllShown ms

      abbrev OptionG : ℕ → Option ActionTrees → Type 0
      OptionG l None = Unit {0}
      OptionG l (Some g) = G l g

      of_graph_in : (role : Role) (h : Holder) (l : ℕ) (key p : List ℕ) → child role h key ≡ Some (Role.Graph l) → (ms : MemberTrees)
          → AllShown ms
          → AllFine role h ms → G l (graph_in number_of key p ms)
      of_graph_in role h l key p is no_members all fine = s.no_graph l
      of_graph_in role h l key p is (member_then k t ms) all fine =
          elim (bytes_eq key k) as (λ (b : Bool). bytes_eq key k ≡ b
          → G l (if b then graph_of number_of (p ++ member_step key) t else graph_in number_of key p ms)) [
            | true ↦ λ same. all.0.graph l k (p ++ member_step key) (found-fine role h key k t ms (Role.Graph l) is same fine)
            | false ↦ λ other. of_graph_in role h l key p is ms all.1 (rest-fine role h k t ms fine)
          ] refl

      of_branch_in : (role : Role) (h : Holder) (l : ℕ) (key p : List ℕ) → child role h key ≡ Some (Role.Branch l) → (ms : MemberTrees)
          → AllShown ms → AllFine role h ms → OptionG (deeper l) (branch_in number_of key p ms)
      of_branch_in role h l key p is no_members all fine = tt
      of_branch_in role h l key p is (member_then k t ms) all fine =
          elim (bytes_eq key k) as (λ (b : Bool). bytes_eq key k ≡ b
          → OptionG (deeper l) (if b then Some (branch_of number_of (p ++ member_step key) t) else branch_in number_of key p ms)) [
            | true ↦ λ same. all.0.branch l k (p ++ member_step key) (found-fine role h key k t ms (Role.Branch l) is same fine)
            | false ↦ λ other. of_branch_in role h l key p is ms all.1 (rest-fine role h k t ms fine)
          ] refl

      of_cases_in : (role : Role) (h : Holder) (l : ℕ) (key p : List ℕ) → child role h key ≡ Some (Role.Cases l) → (ms : MemberTrees)
          → AllShown ms → AllFine role h ms → C l (case_trees (cases_in number_of key p ms))
      of_cases_in role h l key p is no_members all fine = s.no_case l
      of_cases_in role h l key p is (member_then k t ms) all fine =
          elim (bytes_eq key k) as (λ (b : Bool). bytes_eq key k ≡ b
          → C l (case_trees (if b then cases_of number_of (p ++ member_step key) t else cases_in number_of key p ms))) [
            | true ↦ λ same. all.0.cases l k (p ++ member_step key) (found-fine role h key k t ms (Role.Cases l) is same fine)
            | false ↦ λ other. of_cases_in role h l key p is ms all.1 (rest-fine role h k t ms fine)
          ] refl

      of_actions : (l : ℕ) (h : Holder) (p : List ℕ) (ms : MemberTrees) → AllShown ms → AllFine (Role.Graph l) h ms
          → L l (graph_of number_of p (object ms))
      of_actions l h p no_members all fine = s.none l
      of_actions l h p (member_then k t ms) all fine =
          let here = first-fine (Role.Graph l) h k t ms (Role.Action l) refl fine in
          s.more l k (p ++ member_step k) t (graph_of number_of p (object ms)) here (all.0.action l k (p ++ member_step k) here)
          (of_actions l h p ms all.1 (rest-fine (Role.Graph l) h k t ms fine))

      of_each : (l : ℕ) (h : Holder) (p : List ℕ) (ms : MemberTrees) → AllShown ms → AllFine (Role.Cases l) h ms
          → C l (case_trees (each_case number_of p ms))
      of_each l h p no_members all fine = s.no_case l
      of_each l h p (member_then k t ms) all fine =
          let here = first-fine (Role.Cases l) h k t ms (Role.Case l) refl fine in
          s.case l k _ (branch_of number_of (p ++ member_step k) t) (case_trees (each_case number_of p ms))
          (all.0.case l k (p ++ member_step k) here) (of_each l h p ms all.1 (rest-fine (Role.Cases l) h k t ms fine))

      or_none : (l : ℕ) (g : Option ActionTrees) → OptionG l g → G l (unwrap_or g no_actions)
      or_none l None shown = s.no_graph l
      or_none l (Some g) shown = shown

      of_switch : (l : ℕ) (t : ValueTree) (cs : List CaseTree) (g : Option ActionTrees) → C l (case_trees cs) → OptionG (deeper l) g
          → K l (switch_of t cs g)
      of_switch l t cs None cases shown = s.in_switch l _ (case_trees cs) cases
      of_switch l t cs (Some g) cases shown = s.in_default l _ (case_trees cs) g cases shown

      main : (l : ℕ) (h : Holder) (q : List ℕ) (ms : MemberTrees) → child (Role.Action l) h (codes "actions") ≡ Some (Role.Graph (deeper l))
          → AllShown ms → AllFine (Role.Action l) h ms → G (deeper l) (graph_in number_of (codes "actions") q ms)
      main l h q ms is all fine = of_graph_in (Role.Action l) h (deeper l) (codes "actions") q is ms all fine

      -- what an action does, by its type
      of_kind : (type' : Option ActionType) (l : ℕ) (q : List ℕ) (t : ValueTree) (ms : MemberTrees) → AllShown ms
          → AllFine (Role.Action l) (holder_by type') ms
          → K l (kind_with type' t (graph_in number_of (codes "actions") q ms) (branch_in number_of (codes "else") q ms)
          (cases_in number_of (codes "cases") q ms) (branch_in number_of (codes "default") q ms))
      of_kind None l q t ms all fine = s.leaf l ActionType.Scope t
      of_kind (Some ActionType.Compose) l q t ms all fine = s.leaf l ActionType.Compose t
      of_kind (Some ActionType.Connector) l q t ms all fine = s.leaf l ActionType.Connector t
      of_kind (Some ActionType.Wait) l q t ms all fine = s.leaf l ActionType.Wait t
      of_kind (Some ActionType.Response) l q t ms all fine = s.leaf l ActionType.Response t
      of_kind (Some ActionType.Terminate) l q t ms all fine = s.leaf l ActionType.Terminate t
      of_kind (Some ActionType.Select) l q t ms all fine = s.leaf l ActionType.Select t
      of_kind (Some ActionType.Query) l q t ms all fine = s.leaf l ActionType.Query t
      of_kind (Some ActionType.Join) l q t ms all fine = s.leaf l ActionType.Join t
      of_kind (Some ActionType.ParseJson) l q t ms all fine = s.leaf l ActionType.ParseJson t
      of_kind (Some ActionType.InitializeVariable) l q t ms all fine = s.leaf l ActionType.InitializeVariable t
      of_kind (Some ActionType.SetVariable) l q t ms all fine = s.leaf l ActionType.SetVariable t
      of_kind (Some ActionType.IncrementVariable) l q t ms all fine = s.leaf l ActionType.IncrementVariable t
      of_kind (Some ActionType.DecrementVariable) l q t ms all fine = s.leaf l ActionType.DecrementVariable t
      of_kind (Some ActionType.AppendToArrayVariable) l q t ms all fine = s.leaf l ActionType.AppendToArrayVariable t
      of_kind (Some ActionType.AppendToStringVariable) l q t ms all fine = s.leaf l ActionType.AppendToStringVariable t
      of_kind (Some ActionType.Scope) l q t ms all fine = s.in_scope l _ (main l Holder.One q ms refl all fine)
      of_kind (Some ActionType.If) l q t ms all fine =
          s.in_branch l _ _ _ (main l Holder.Two q ms refl all fine)
          (or_none (deeper l) (branch_in number_of (codes "else") q ms)
          (of_branch_in (Role.Action l) Holder.Two l (codes "else") q refl ms all fine))
      of_kind (Some ActionType.Switch) l q t ms all fine =
          of_switch l t (cases_in number_of (codes "cases") q ms) (branch_in number_of (codes "default") q ms)
          (of_cases_in (Role.Action l) Holder.Many l (codes "cases") q refl ms all fine)
          (of_branch_in (Role.Action l) Holder.Many l (codes "default") q refl ms all fine)
      of_kind (Some ActionType.Foreach) l q t ms all fine = s.in_foreach l _ _ _ (main l Holder.One q ms refl all fine)
      of_kind (Some ActionType.Until) l q t ms all fine = s.in_until l _ _ _ _ (main l Holder.One q ms refl all fine)

      shown_object : (ms : MemberTrees) → IsInNameOrder name_of (pairs ms) → AllShown ms → Shown (object ms)
      shown_object ms order all = record {
        graph = λ l key p fine. s.graph l key p ms order fine
            (of_actions l (holder_of (object ms)) p ms all (members-fine (Role.Graph l) key ms fine));
        action = λ l key q fine. of_kind (type_of (object ms)) l q (object ms) ms all (members-fine (Role.Action l) key ms fine);
        branch = λ l key p fine. of_graph_in (Role.Branch l) (holder_of (object ms)) (deeper l) (codes "actions") p refl ms all
            (members-fine (Role.Branch l) key ms fine);
        case = λ l key p fine. of_graph_in (Role.Case l) (holder_of (object ms)) (deeper l) (codes "actions") p refl ms all
            (members-fine (Role.Case l) key ms fine);
        cases = λ l key p fine. of_each l (holder_of (object ms)) p ms all (members-fine (Role.Cases l) key ms fine);
      }

      -- what is no object is read as no graph, and as an action that does nothing
      shown_plain : (t : ValueTree) → ((p : List ℕ) → graph_of number_of p t ≡ no_actions)
          → ((q : List ℕ) → kind_at number_of q t ≡ nothing)
          → ((p : List ℕ) → branch_of number_of p t ≡ no_actions) → ((p : List ℕ) → cases_of number_of p t ≡ []) → Shown t
      shown_plain t no_graph' no_kind no_branch' no_cases' = record {
        graph = λ l k p fine. subst (G l) (sym (no_graph' p)) (s.no_graph l);
        action = λ l k q fine. subst (K l) (sym (no_kind q)) (s.leaf l ActionType.Scope t);
        branch = λ l k p fine. subst (G (deeper l)) (sym (no_branch' p)) (s.no_graph (deeper l));
        case = λ l k p fine. subst (G (deeper l)) (sym (no_branch' p)) (s.no_graph (deeper l));
        cases = λ l k p fine. subst (λ (cs : List CaseTree). C l (case_trees cs)) (sym (no_cases' p)) (s.no_case l);
      }

      mutual
        shown : (t : ValueTree) → IsWellFormed t → Shown t
        shown null w = shown_plain null (λ p. refl) (λ q. refl) (λ p. refl) (λ p. refl)
        shown (boolean b) w = shown_plain (boolean b) (λ p. refl) (λ q. refl) (λ p. refl) (λ p. refl)
        shown (number n) w = shown_plain (number n) (λ p. refl) (λ q. refl) (λ p. refl) (λ p. refl)
        shown (text x) w = shown_plain (text x) (λ p. refl) (λ q. refl) (λ p. refl) (λ p. refl)
        shown (list ts) w = shown_plain (list ts) (λ p. refl) (λ q. refl) (λ p. refl) (λ p. refl)
        shown (object ms) w = shown_object ms w.0 (all_shown ms w.1)

        all_shown : (ms : MemberTrees) → AllMembersWellFormed ms → AllShown ms
        all_shown no_members w = tt
        all_shown (member_then k t ms) w = (shown t w.0.1, all_shown ms w.1)

      pub graph-shown : (t : ValueTree) → IsWellFormed t → (l : ℕ) (key p : List ℕ) → Fine (Role.Graph l) key t
          → G l (graph_of number_of p t)
      graph-shown t w = (shown t w).graph

      value_found : (role : Role) (h : Holder) (l : ℕ) (key p : List ℕ) → child role h key ≡ Some (Role.Graph l) → (ms : MemberTrees)
          → AllMembersWellFormed ms → AllFine role h ms → (o : Option ValueTree) → value_of key (pairs ms) ≡ o
          → OptionG l (option_map (graph_of number_of p) o)
      value_found role h l key p is no_members w fine None found = tt
      value_found role h l key p is no_members w fine (Some u) found = absurd (cc)
      value_found role h l key p is (member_then k t ms) w fine None found = tt
      value_found role h l key p is (member_then k t ms) w fine (Some u) found = elim (bytes_eq key k) as
          (λ b. bytes_eq key k ≡ b → G l (graph_of number_of p u)) [
            | true ↦ λ same.
                let this : t ≡ u = some_one (sym (value_of-here key (k, t) (pairs ms) same) ∙ found) in
                subst (λ (v : ValueTree). G l (graph_of number_of p v)) this
                (graph-shown t w.0.1 l k p (found-fine role h key k t ms (Role.Graph l) is same fine))
            | false ↦ λ other.
                value_found role h l key p is ms w.1 (rest-fine role h k t ms fine) (Some u)
                (sym (value_of-later key (k, t) (pairs ms) other) ∙ found)
          ] refl

      top_found : (o : Option ValueTree) → OptionG 1 (option_map (graph_of number_of (codes "/actions")) o) → G 1 (top_at number_of o)
      top_found None is = s.no_graph 1
      top_found (Some t) is = is

      -- the graph at the top of a definition
      pub top-shown : (t : ValueTree) → IsWellFormed t → Fine Role.Definition [] t → G 1 (top_at number_of (get (codes "actions") t))
      top-shown null w fine = s.no_graph 1
      top-shown (boolean b) w fine = s.no_graph 1
      top-shown (number n) w fine = s.no_graph 1
      top-shown (text x) w fine = s.no_graph 1
      top-shown (list ts) w fine = s.no_graph 1
      top-shown (object ms) w fine =
          top_found (value_of (codes "actions") (pairs ms)) (value_found Role.Definition (holder_of (object ms)) 1 (codes "actions")
          (codes "/actions") refl ms w.1
          (members-fine Role.Definition [] ms fine) (value_of (codes "actions") (pairs ms)) refl)
