-- The entries of each `runAfter` that is read are the members of an object, in byte order of their names.
use Rattle.std.proofs.Common.{◌≡◌, ℕ, Bool, true, false, List, [], ◌∷◌, ◌++◌, Option, Some, None, map, bytes_eq, Less, refl, subst}
use Rattle.std.specs.Prelude.{if◌then◌else◌, codes, unwrap_or}
use Rattle.std.specs.List.{AllByRecursion}
use Rattle.wf_val.specs.Get.{get, name_of, value_of}
use Rattle.wf_val.specs.NameOrder.{bytes_cmp, IsInNameOrder}
use Rattle.wf_val.specs.ValueTree.{ValueTree, null, boolean, number, text, list, object, MemberTrees, no_members, member_then, Member}
use Rattle.wf_val.specs.ValueTree.{pairs}
use Rattle.wf_val.specs.WellFormed.{IsWellFormed, AllMembersWellFormed}
use Rattle.wf_json.specs.Pointer.{member_step}
use Rattle.wf_kinds.specs.ActionType.{type_of}
use Rattle.wf_kinds.specs.declared.action_type.ActionType.{ActionType}
use Rattle.wf_form.specs.Fault.{inner_of}
use Rattle.wf_def.specs.ActionTree.{ActionTrees, no_actions, CaseTree, case_trees}
use Rattle.wf_def.specs.DefTree.{DefTree}
use Rattle.wf_def.specs.declared.after.After.{After}
use Rattle.wf_reading.specs.Afters.{after_of, afters_of}
use Rattle.wf_reading.specs.Graphs.{branch_in, branch_of, cases_in, cases_of, each_case, graph_in, graph_of, kind_at, kind_with, switch_of}
use Rattle.wf_reading.specs.Meant.{names_of, top_at}
use Rattle.wf_reading.specs.Numbers.{number_among}
use Rattle.wf_reading.specs.Read.{IsRead}
use Rattle.wf_reading.proofs.ReadLemmas.{inner-well_formed}
use Rattle.wf_reading.proofs.RunAfterLemmas.{value-well_formed}
use Rattle.wf_known_laws.specs.Each.{EachCase, EachGraph, EachIn}
use Rattle.wf_planned.specs.Order.{EntriesAreInOrder}

module _ (number_of : List ℕ → ℕ) where
  -- ---- one `runAfter`

  abbrev IsInOrder : List After → Type 0
  IsInOrder es = IsInNameOrder (λ (e : After). e.name) es

  all_above : (k : List ℕ) (es : List Member) → AllByRecursion (λ e. bytes_cmp k (name_of e) ≡ Less) es
      → AllByRecursion (λ (a : After). bytes_cmp k a.name ≡ Less) (map (after_of number_of) es)
  all_above k [] all = tt
  all_above k (e ∷ es) all = (all.0, all_above k es all.1)

  entries_ordered : (es : List Member) → IsInNameOrder name_of es → IsInOrder (map (after_of number_of) es)
  entries_ordered [] order = tt
  entries_ordered (e ∷ es) order = (all_above e.0 es order.0, entries_ordered es order.1)

  value_ordered : (u : ValueTree) → IsWellFormed u → IsInOrder (afters_of number_of (Some u))
  value_ordered null w = tt
  value_ordered (boolean b) w = tt
  value_ordered (number n) w = tt
  value_ordered (text s) w = tt
  value_ordered (list ts) w = tt
  value_ordered (object ms) w = entries_ordered (pairs ms) w.0

  found_ordered : (ms : MemberTrees) → AllMembersWellFormed ms → (o : Option ValueTree) → value_of (codes "runAfter") (pairs ms) ≡ o
      → IsInOrder (afters_of number_of o)
  found_ordered ms w None is = tt
  found_ordered ms w (Some u) is = value_ordered u (value-well_formed (codes "runAfter") ms w u is)

  afters_ordered : (t : ValueTree) → IsWellFormed t → IsInOrder (afters_of number_of (get (codes "runAfter") t))
  afters_ordered null w = tt
  afters_ordered (boolean b) w = tt
  afters_ordered (number n) w = tt
  afters_ordered (text s) w = tt
  afters_ordered (list ts) w = tt
  afters_ordered (object ms) w = found_ordered ms w.1 (value_of (codes "runAfter") (pairs ms)) refl

  graph_ordered : (p : List ℕ) (ms : MemberTrees) → AllMembersWellFormed ms → EntriesAreInOrder (graph_of number_of p (object ms))
  graph_ordered p no_members w = tt
  graph_ordered p (member_then k t ms) w = (afters_ordered t w.0.1, graph_ordered p ms w.1)

  -- ---- each graph, whatever a value stands for

  abbrev Each : ActionTrees → Type 0
  Each = EachGraph EntriesAreInOrder

  record AreOrdered (t : ValueTree) : Type 0 where
    graph : (p : List ℕ) → Each (graph_of number_of p t)
    kind : (q : List ℕ) → EachIn EntriesAreInOrder (kind_at number_of q t)
    branch : (p : List ℕ) → Each (branch_of number_of p t)
    cases : (p : List ℕ) → EachCase EntriesAreInOrder (case_trees (cases_of number_of p t))

  abbrev AllOrdered : MemberTrees → Type 0
  AllOrdered no_members = Unit {0}
  AllOrdered (member_then k t ms) = AreOrdered t × AllOrdered ms

  abbrev OptionOrdered : Option ActionTrees → Type 0
  OptionOrdered None = Unit {0}
  OptionOrdered (Some g) = Each g

  of_graph_in : (key p : List ℕ) (ms : MemberTrees) → AllOrdered ms → Each (graph_in number_of key p ms)
  of_graph_in key p no_members all = (tt, tt)
  of_graph_in key p (member_then k t ms) all =
      elim (bytes_eq key k) as (λ (b : Bool).
      Each (if b then graph_of number_of (p ++ member_step key) t else graph_in number_of key p ms)) [
        | true ↦ all.0.graph (p ++ member_step key)
        | false ↦ of_graph_in key p ms all.1
      ]

  of_branch_in : (key p : List ℕ) (ms : MemberTrees) → AllOrdered ms → OptionOrdered (branch_in number_of key p ms)
  of_branch_in key p no_members all = tt
  of_branch_in key p (member_then k t ms) all =
      elim (bytes_eq key k) as (λ (b : Bool).
      OptionOrdered (if b then Some (branch_of number_of (p ++ member_step key) t) else branch_in number_of key p ms)) [
        | true ↦ all.0.branch (p ++ member_step key)
        | false ↦ of_branch_in key p ms all.1
      ]

  of_cases_in : (key p : List ℕ) (ms : MemberTrees) → AllOrdered ms → EachCase EntriesAreInOrder (case_trees (cases_in number_of key p ms))
  of_cases_in key p no_members all = tt
  of_cases_in key p (member_then k t ms) all =
      elim (bytes_eq key k) as (λ (b : Bool).
      EachCase EntriesAreInOrder (case_trees (if b then cases_of number_of (p ++ member_step key) t else cases_in number_of key p ms))) [
        | true ↦ all.0.cases (p ++ member_step key)
        | false ↦ of_cases_in key p ms all.1
      ]

  of_actions : (p : List ℕ) (ms : MemberTrees) → AllMembersWellFormed ms → AllOrdered ms → Each (graph_of number_of p (object ms))
  of_actions p no_members w all = (tt, tt)
  of_actions p (member_then k t ms) w all =
      (graph_ordered p (member_then k t ms) w, (all.0.kind (p ++ member_step k), (of_actions p ms w.1 all.1).1))

  of_each : (p : List ℕ) (ms : MemberTrees) → AllOrdered ms → EachCase EntriesAreInOrder (case_trees (each_case number_of p ms))
  of_each p no_members all = tt
  of_each p (member_then k t ms) all = (all.0.branch (p ++ member_step k), of_each p ms all.1)

  or_none : (g : Option ActionTrees) → OptionOrdered g → Each (unwrap_or g no_actions)
  or_none None is = (tt, tt)
  or_none (Some g) is = is

  of_switch : (t : ValueTree) (cs : List CaseTree) (g : Option ActionTrees) → OptionOrdered g
      → EachCase EntriesAreInOrder (case_trees cs) → EachIn EntriesAreInOrder (switch_of t cs g)
  of_switch t cs None is cases = cases
  of_switch t cs (Some g) is cases = (cases, is)

  of_kind : (type' : Option ActionType) (q : List ℕ) (t : ValueTree) (ms : MemberTrees) → AllOrdered ms
      → EachIn EntriesAreInOrder (kind_with type' t (graph_in number_of (codes "actions") q ms)
      (branch_in number_of (codes "else") q ms) (cases_in number_of (codes "cases") q ms) (branch_in number_of (codes "default") q ms))
  of_kind None q t ms all = tt
  of_kind (Some ActionType.Compose) q t ms all = tt
  of_kind (Some ActionType.Connector) q t ms all = tt
  of_kind (Some ActionType.Wait) q t ms all = tt
  of_kind (Some ActionType.Response) q t ms all = tt
  of_kind (Some ActionType.Terminate) q t ms all = tt
  of_kind (Some ActionType.Select) q t ms all = tt
  of_kind (Some ActionType.Query) q t ms all = tt
  of_kind (Some ActionType.Join) q t ms all = tt
  of_kind (Some ActionType.ParseJson) q t ms all = tt
  of_kind (Some ActionType.InitializeVariable) q t ms all = tt
  of_kind (Some ActionType.SetVariable) q t ms all = tt
  of_kind (Some ActionType.IncrementVariable) q t ms all = tt
  of_kind (Some ActionType.DecrementVariable) q t ms all = tt
  of_kind (Some ActionType.AppendToArrayVariable) q t ms all = tt
  of_kind (Some ActionType.AppendToStringVariable) q t ms all = tt
  of_kind (Some ActionType.Scope) q t ms all = of_graph_in (codes "actions") q ms all
  of_kind (Some ActionType.If) q t ms all =
      (of_graph_in (codes "actions") q ms all, or_none (branch_in number_of (codes "else") q ms) (of_branch_in (codes "else") q ms all))
  of_kind (Some ActionType.Switch) q t ms all =
      of_switch t (cases_in number_of (codes "cases") q ms) (branch_in number_of (codes "default") q ms)
      (of_branch_in (codes "default") q ms all) (of_cases_in (codes "cases") q ms all)
  of_kind (Some ActionType.Foreach) q t ms all = of_graph_in (codes "actions") q ms all
  of_kind (Some ActionType.Until) q t ms all = of_graph_in (codes "actions") q ms all

  no_graphs : (t : ValueTree) → ((p : List ℕ) → Each (graph_of number_of p t)) → ((q : List ℕ) → EachIn EntriesAreInOrder
      (kind_at number_of q t)) → ((p : List ℕ) → Each (branch_of number_of p t))
      → ((p : List ℕ) → EachCase EntriesAreInOrder (case_trees (cases_of number_of p t))) → AreOrdered t
  no_graphs t g k b c = record { graph = g; kind = k; branch = b; cases = c }

  mutual
    ordered : (t : ValueTree) → IsWellFormed t → AreOrdered t
    ordered null w = no_graphs null (λ p. (tt, tt)) (λ q. tt) (λ p. (tt, tt)) (λ p. tt)
    ordered (boolean b) w = no_graphs (boolean b) (λ p. (tt, tt)) (λ q. tt) (λ p. (tt, tt)) (λ p. tt)
    ordered (number n) w = no_graphs (number n) (λ p. (tt, tt)) (λ q. tt) (λ p. (tt, tt)) (λ p. tt)
    ordered (text s) w = no_graphs (text s) (λ p. (tt, tt)) (λ q. tt) (λ p. (tt, tt)) (λ p. tt)
    ordered (list ts) w = no_graphs (list ts) (λ p. (tt, tt)) (λ q. tt) (λ p. (tt, tt)) (λ p. tt)
    ordered (object ms) w = record {
      graph = λ p. of_actions p ms w.1 (all_ordered ms w.1);
      kind = λ q. of_kind (type_of (object ms)) q (object ms) ms (all_ordered ms w.1);
      branch = λ p. of_graph_in (codes "actions") p ms (all_ordered ms w.1);
      cases = λ p. of_each p ms (all_ordered ms w.1);
    }

    all_ordered : (ms : MemberTrees) → AllMembersWellFormed ms → AllOrdered ms
    all_ordered no_members w = tt
    all_ordered (member_then k t ms) w = (ordered t w.0.1, all_ordered ms w.1)

  -- ---- the whole

  top_found : (ms : MemberTrees) → AllMembersWellFormed ms → (o : Option ValueTree) → value_of (codes "actions") (pairs ms) ≡ o
      → Each (top_at number_of o)
  top_found ms w None is = (tt, tt)
  top_found ms w (Some t) is = (ordered t (value-well_formed (codes "actions") ms w t is)).graph (codes "/actions")

  top_ordered : (t : ValueTree) → IsWellFormed t → Each (top_at number_of (get (codes "actions") t))
  top_ordered null w = (tt, tt)
  top_ordered (boolean b) w = (tt, tt)
  top_ordered (number n) w = (tt, tt)
  top_ordered (text s) w = (tt, tt)
  top_ordered (list ts) w = (tt, tt)
  top_ordered (object ms) w = top_found ms w.1 (value_of (codes "actions") (pairs ms)) refl

pub read_ordered : (d : DefTree) → IsRead d → EachGraph EntriesAreInOrder d.top
read_ordered d r = subst (λ (e : DefTree). EachGraph EntriesAreInOrder e.top) r.means
    (top_ordered (number_among (names_of (inner_of r.value))) (inner_of r.value) (inner-well_formed r.value r.well_formed))
