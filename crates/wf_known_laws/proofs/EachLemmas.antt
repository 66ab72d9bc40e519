-- Each graph of a definition that breaks no rule, at any depth: its `runAfter` has depths, its actions are numbered by their names, and its
-- numbers have their ranges.
use Rattle.std.proofs.Common.{◌≡◌, ◌≤◌, ℕ, ℤ, pos, Bool, true, false, List, [], ◌∷◌, ◌++◌, Option, Some, None, Result, Ok, Err, map, refl}
use Rattle.std.proofs.Common.{arith, sym, ap, ◌∙◌}
use Rattle.std.specs.Prelude.{◌||◌, nat_le, if◌then◌else◌, codes}
use Rattle.std.specs.List.{AllByRecursion}
use Rattle.std.specs.Str.{str_eq_ignore_ascii_case}
use Rattle.std.proofs.lemmas.Bool.{leb-true}
use Rattle.wf_val.specs.Get.{get, name_of}
use Rattle.wf_val.specs.NameOrder.{IsInNameOrder}
use Rattle.wf_val.specs.ValueTree.{ValueTree, null, boolean, number, text, list, object, MemberTrees, no_members, member_then, Member}
use Rattle.wf_val.specs.ValueTree.{pairs}
use Rattle.wf_json.specs.Pointer.{member_step}
use Rattle.wf_retry.specs.Reading.{are_intervals, number_in as count_in, policy_by, policy_by_count, policy_of, policy_of_type}
use Rattle.wf_retry.specs.declared.policy.Policy.{Policy}
use Rattle.wf_retry.specs.declared.policy.PolicyFault.{PolicyFault}
use Rattle.wf_reading.specs.ActionType.{type_of}
use Rattle.wf_reading.specs.Containers.{limit, repetitions}
use Rattle.wf_reading.specs.Parts.{input}
use Rattle.wf_reading.specs.KindsActionType.{ActionType}
use Rattle.wf_reading.specs.Waits.{bad_run_after}
use Rattle.wf_reading.specs.Judge.{run_after}
use Rattle.wf_reading.specs.Places.{in_members}
use Rattle.wf_reading.specs.Role.{holder_of}
use Rattle.wf_reading.specs.Whole.{Whole}
use Rattle.wf_reading.specs.FormRole.{Role}
use Rattle.wf_reading.specs.Rule.{Rule}
use Rattle.wf_reading.specs.ActionTree.{ActionTree, action_after, action_name, action_number, ActionTrees, no_actions, actions_in, CaseTree}
use Rattle.wf_reading.specs.After.{After}
use Rattle.wf_reading.specs.Afters.{after_of, entries}
use Rattle.wf_reading.specs.Facts.{HasDepths}
use Rattle.wf_reading.specs.Graphs.{graph_of, has_option, kind_at, kind_with, number_in, repetitions_of, switch_of, within}
use Rattle.wf_reading.specs.Leaves.{leaf_of, or_standard, policy_in}
use Rattle.wf_reading.proofs.DepthLemmas.{PathsAreExact}
use Rattle.wf_reading.proofs.PartLemmas.{equal_keys}
use Rattle.wf_reading.proofs.RunAfterLemmas.{append-first, graph-depths}
use Rattle.wf_known_laws.specs.Each.{EachCase, EachGraph, EachIn, EachInside}
use Rattle.wf_known_laws.specs.Held.{AreInRange, EntriesAreNumbered, IsInRange, IsNumberOf, IsPolicyInRange}
use Rattle.wf_known_laws.proofs.WalkLemmas.{Fine, Steps}

-- ---- what holds of each graph by itself

module _ (rule : Rule) (whole : Whole) (number_of : List ℕ → ℕ) (Holds : ActionTrees → Type 0) where
  leaf-each : (type' : ActionType) (t : ValueTree) → EachIn Holds (leaf_of type' t)
  leaf-each ActionType.Compose t = tt
  leaf-each ActionType.Connector t = tt
  leaf-each ActionType.Wait t = tt
  leaf-each ActionType.Response t = tt
  leaf-each ActionType.Terminate t = tt
  leaf-each ActionType.Select t = tt
  leaf-each ActionType.Query t = tt
  leaf-each ActionType.Join t = tt
  leaf-each ActionType.ParseJson t = tt
  leaf-each ActionType.InitializeVariable t = tt
  leaf-each ActionType.SetVariable t = tt
  leaf-each ActionType.IncrementVariable t = tt
  leaf-each ActionType.DecrementVariable t = tt
  leaf-each ActionType.AppendToArrayVariable t = tt
  leaf-each ActionType.AppendToStringVariable t = tt
  leaf-each ActionType.Scope t = tt
  leaf-each ActionType.If t = tt
  leaf-each ActionType.Switch t = tt
  leaf-each ActionType.Foreach t = tt
  leaf-each ActionType.Until t = tt

  pub each_steps : Holds no_actions
      → ((l : ℕ) (key p : List ℕ) (ms : MemberTrees) → IsInNameOrder name_of (pairs ms) → Fine rule whole (Role.Graph l) key (object ms)
      → Holds (graph_of number_of p (object ms)))
      → Steps rule whole number_of (λ l. EachGraph Holds) (λ l. EachInside Holds) (λ l. EachIn Holds) (λ l. EachCase Holds)
  each_steps empty holds = record {
    no_graph = λ l. (empty, tt);
    graph = λ l key p ms order fine inside. (holds l key p ms order fine, inside);
    none = λ l. tt;
    more = λ l k q t rest fine kind later. (kind, later);
    leaf = λ l type' t. leaf-each type' t;
    in_scope = λ l g each. each;
    in_branch = λ l test yes' no' one other. (one, other);
    in_switch = λ l on cs each. each;
    in_default = λ l on cs g each other. (each, other);
    in_foreach = λ l items n g each. each;
    in_until = λ l test n fails g each. each;
    no_case = λ l. tt;
    case = λ l n v g rest each later. (each, later);
  }

-- ---- `runAfter` has depths

no_depths : HasDepths no_actions
no_depths = record { depth = λ k. 0; falls = tt }

module _ (whole : Whole) where
  graph-fine : (l : ℕ) (key : List ℕ) (ms : MemberTrees) → Fine Rule.RunAfter whole (Role.Graph l) key (object ms)
      → bad_run_after (pairs ms) ≡ []
  unfolding run_after
  graph-fine l key ms fine = append-first (bad_run_after (pairs ms))
      (in_members Rule.RunAfter whole (Role.Graph l) (holder_of (object ms)) ms) fine

  pub depth_steps : (number_of : List ℕ → ℕ) → PathsAreExact
      → Steps Rule.RunAfter whole number_of (λ l. EachGraph HasDepths) (λ l. EachInside HasDepths) (λ l. EachIn HasDepths)
      (λ l. EachCase HasDepths)
  depth_steps number_of exact = each_steps Rule.RunAfter whole number_of HasDepths no_depths
      (λ l key p ms order fine. graph-depths number_of p exact ms order (graph-fine l key ms fine))

-- ---- actions and entries have the numbers of their names

-- of an action, and of what it waits for
abbrev pub HasNumbers : (List ℕ → ℕ) → ActionTree → Type 0
HasNumbers number_of a = (action_number a ≡ number_of (action_name a))
    × AllByRecursion (λ (e : After). e.number ≡ number_of e.name) (action_after a)

abbrev pub HaveNumbers : (List ℕ → ℕ) → ActionTrees → Type 0
HaveNumbers number_of graph = AllByRecursion (HasNumbers number_of) (actions_in graph)

module _ (whole : Whole) (number_of : List ℕ → ℕ) (exact : PathsAreExact) where
  entries-numbered : (es : List Member) → AllByRecursion (λ (e : After). e.number ≡ number_of e.name) (map (after_of number_of) es)
  entries-numbered [] = tt
  entries-numbered (e ∷ es) = (refl, entries-numbered es)

  graph-numbered : (p : List ℕ) (ms : MemberTrees) → HaveNumbers number_of (graph_of number_of p (object ms))
  graph-numbered p no_members = tt
  graph-numbered p (member_then k t ms) = ((refl, entries-numbered (entries (get (codes "runAfter") t))), graph-numbered p ms)

  -- both at once
  abbrev pub Sound : ActionTrees → Type 0
  Sound g = HasDepths g × HaveNumbers number_of g

  pub sound_steps : Steps Rule.RunAfter whole number_of (λ l. EachGraph Sound) (λ l. EachInside Sound) (λ l. EachIn Sound)
      (λ l. EachCase Sound)
  sound_steps = each_steps Rule.RunAfter whole number_of Sound (no_depths, tt)
      (λ l key p ms order fine. (graph-depths number_of p exact ms order (graph-fine whole l key ms fine), graph-numbered p ms))

-- so an entry has the number of the action whose name it has
module _ (number_of : List ℕ → ℕ) where
  number-is : (e : After) → e.number ≡ number_of e.name → (as' : List ActionTree) → AllByRecursion (HasNumbers number_of) as'
      → AllByRecursion (IsNumberOf e) as'
  number-is e is [] all = tt
  number-is e is (a ∷ more) all =
      ((λ same. all.0.0 ∙ ap number_of (sym (equal_keys e.name (action_name a) same)) ∙ sym is), number-is e is more all.1)

  entries-are : (as' : List ActionTree) → AllByRecursion (HasNumbers number_of) as' → (es : List After)
      → AllByRecursion (λ (e : After). e.number ≡ number_of e.name) es → AllByRecursion (λ e. AllByRecursion (IsNumberOf e) as') es
  entries-are as' all [] each = tt
  entries-are as' all (e ∷ es) each = (number-is e each.0 as' all, entries-are as' all es each.1)

  actions-are : (all_actions as' : List ActionTree) → AllByRecursion (HasNumbers number_of) all_actions
      → AllByRecursion (HasNumbers number_of) as'
      → AllByRecursion (λ a. AllByRecursion (λ e. AllByRecursion (IsNumberOf e) all_actions) (action_after a)) as'
  actions-are all_actions [] all each = tt
  actions-are all_actions (a ∷ more) all each =
      (entries-are all_actions all (action_after a) each.0.1, actions-are all_actions more all each.1)

  pub entry_steps : (whole : Whole) → PathsAreExact → Steps Rule.RunAfter whole number_of (λ l. EachGraph EntriesAreNumbered)
      (λ l. EachInside EntriesAreNumbered) (λ l. EachIn EntriesAreNumbered) (λ l. EachCase EntriesAreNumbered)
  entry_steps whole exact = each_steps Rule.RunAfter whole number_of EntriesAreNumbered tt
      (λ l key p ms order fine.
      let numbers = graph-numbered whole number_of exact p ms in
      actions-are (actions_in (graph_of number_of p (object ms))) (actions_in (graph_of number_of p (object ms))) numbers numbers)

-- ---- ranges

within-range : (least most absent : ℕ) (z : ℤ) → least ≤ absent → absent ≤ most → (least ≤ within least most absent z)
    × (within least most absent z ≤ most)
within-range least most absent (pos n) one other =
    elim (nat_le least n) as (λ b. nat_le least n ≡ b → (least ≤ within least most absent (pos n))
    × (within least most absent (pos n) ≤ most)) [
      | true ↦ λ is. elim (nat_le n most) as (λ b. nat_le n most ≡ b → (least ≤ within least most absent (pos n))
          × (within least most absent (pos n) ≤ most)) [
            | true ↦ λ too. rw (is, too) (leb-true least n is, leb-true n most too)
            | false ↦ λ too. rw (is, too) (one, other)
          ] refl
      | false ↦ λ is. rw is (one, other)
    ] refl
within-range least most absent z one other = (one, other)

number-range : (least most absent : ℕ) (value : Option ValueTree) → least ≤ absent → absent ≤ most
    → (least ≤ number_in least most absent value) × (number_in least most absent value ≤ most)
number-range least most absent None one other = (one, other)
number-range least most absent (Some null) one other = (one, other)
number-range least most absent (Some (boolean b)) one other = (one, other)
number-range least most absent (Some (number z)) one other = within-range least most absent z one other
number-range least most absent (Some (text s)) one other = (one, other)
number-range least most absent (Some (list ts)) one other = (one, other)
number-range least most absent (Some (object ms)) one other = (one, other)

repetitions-range : (t : ValueTree) → (1 ≤ repetitions_of t) × (repetitions_of t ≤ 50)
repetitions-range t = elim (has_option (codes "Sequential") t) as (λ (b : Bool).
    (1 ≤ (if b then 1 else number_in 1 50 20 (repetitions t))) × ((if b then 1 else number_in 1 50 20 (repetitions t)) ≤ 50)) [
      | true ↦ (omega arith, omega arith)
      | false ↦ number-range 1 50 20 (repetitions t) (omega arith) (omega arith)
    ]

-- a policy that was read, or the standard one
abbrev ResultInRange : Result Policy PolicyFault → Type 0
ResultInRange (Ok policy) = IsPolicyInRange policy
ResultInRange (Err fault) = Unit {0}

counted-range : (n : ℕ) (intervals : Bool) → ResultInRange (policy_by_count (pos n) intervals)
counted-range n intervals = elim (nat_le 1 n) as (λ b. nat_le 1 n ≡ b → ResultInRange (policy_by_count (pos n) intervals)) [
  | true ↦ λ is. elim (nat_le n 90) as (λ b. nat_le n 90 ≡ b → ResultInRange (policy_by_count (pos n) intervals)) [
    | true ↦ λ too. rw (is, too) (elim intervals as (λ (b : Bool). ResultInRange
        (if b then Ok (Policy.Count n) else Err PolicyFault.Interval)) [
          | true ↦ (leb-true 1 n is, leb-true n 90 too)
          | false ↦ tt
        ])
    | false ↦ λ too. rw (is, too) tt
  ] refl
  | false ↦ λ is. rw is tt
] refl

count-range : (z : ℤ) (intervals : Bool) → ResultInRange (policy_by_count z intervals)
count-range (pos n) intervals = counted-range n intervals
count-range z intervals = tt

named-range : (s : List ℕ) (t : ValueTree) → ResultInRange (policy_by s t)
named-range s t =
    let counted : Result Policy PolicyFault = policy_by_count (count_in (get (codes "count") t)) (are_intervals t) in
    elim (str_eq_ignore_ascii_case s (codes "default")) as (λ (b : Bool). ResultInRange (if b then Ok Policy.Standard else
    (if str_eq_ignore_ascii_case s (codes "none") then Ok Policy.Never else
    (if str_eq_ignore_ascii_case s (codes "fixed") || str_eq_ignore_ascii_case s
    (codes "exponential") then counted else Err PolicyFault.BadType)))) [
      | true ↦ tt
      | false ↦ elim (str_eq_ignore_ascii_case s (codes "none")) as (λ (b : Bool). ResultInRange (if b then Ok Policy.Never else
          (if str_eq_ignore_ascii_case s (codes "fixed") || str_eq_ignore_ascii_case s
          (codes "exponential") then counted else Err PolicyFault.BadType))) [
            | true ↦ tt
            | false ↦ elim (str_eq_ignore_ascii_case s (codes "fixed") || str_eq_ignore_ascii_case s (codes "exponential"))
                as (λ (b : Bool). ResultInRange (if b then counted else Err PolicyFault.BadType)) [
                  | true ↦ count-range (count_in (get (codes "count") t)) (are_intervals t)
                  | false ↦ tt
                ]
          ]
    ]

typed-range : (value : Option ValueTree) (t : ValueTree) → ResultInRange (policy_of_type value t)
typed-range None t = tt
typed-range (Some null) t = tt
typed-range (Some (boolean b)) t = tt
typed-range (Some (number z)) t = tt
typed-range (Some (text s)) t = named-range s t
typed-range (Some (list ts)) t = tt
typed-range (Some (object ms)) t = tt

or_standard-range : (r : Result Policy PolicyFault) → ResultInRange r → IsPolicyInRange (or_standard r)
or_standard-range (Ok policy) is = is
or_standard-range (Err fault) is = tt

policy-range : (value : Option ValueTree) → IsPolicyInRange (policy_in value)
policy-range None = tt
policy-range (Some t) = or_standard-range (policy_of t) (typed-range (get (codes "type") t) t)

switch-range : (t : ValueTree) (cs : List CaseTree) (g : Option ActionTrees) → IsInRange (switch_of t cs g)
switch-range t cs None = tt
switch-range t cs (Some g) = tt

typed_kind-range : (type' : Option ActionType) (t : ValueTree) (main : ActionTrees) (other : Option ActionTrees) (cs : List CaseTree)
    (default : Option ActionTrees)
    → IsInRange (kind_with type' t main other cs default)
typed_kind-range None t main other cs default = tt
typed_kind-range (Some ActionType.Compose) t main other cs default = tt
typed_kind-range (Some ActionType.Connector) t main other cs default = policy-range (input (codes "retryPolicy") t)
typed_kind-range (Some ActionType.Wait) t main other cs default = tt
typed_kind-range (Some ActionType.Response) t main other cs default = tt
typed_kind-range (Some ActionType.Terminate) t main other cs default = tt
typed_kind-range (Some ActionType.Select) t main other cs default = tt
typed_kind-range (Some ActionType.Query) t main other cs default = tt
typed_kind-range (Some ActionType.Join) t main other cs default = tt
typed_kind-range (Some ActionType.ParseJson) t main other cs default = tt
typed_kind-range (Some ActionType.InitializeVariable) t main other cs default = tt
typed_kind-range (Some ActionType.SetVariable) t main other cs default = tt
typed_kind-range (Some ActionType.IncrementVariable) t main other cs default = tt
typed_kind-range (Some ActionType.DecrementVariable) t main other cs default = tt
typed_kind-range (Some ActionType.AppendToArrayVariable) t main other cs default = tt
typed_kind-range (Some ActionType.AppendToStringVariable) t main other cs default = tt
typed_kind-range (Some ActionType.Scope) t main other cs default = tt
typed_kind-range (Some ActionType.If) t main other cs default = tt
typed_kind-range (Some ActionType.Switch) t main other cs default = switch-range t cs default
typed_kind-range (Some ActionType.Foreach) t main other cs default = repetitions-range t
typed_kind-range (Some ActionType.Until) t main other cs default = number-range 1 5000 60 (limit (codes "count") t) (omega arith)
    (omega arith)

module _ (whole : Whole) (number_of : List ℕ → ℕ) where
  kind-range : (q : List ℕ) (t : ValueTree) → IsInRange (kind_at number_of q t)
  kind-range q null = tt
  kind-range q (boolean b) = tt
  kind-range q (number n) = tt
  kind-range q (text s) = tt
  kind-range q (list ts) = tt
  kind-range q (object ms) = typed_kind-range (type_of (object ms)) (object ms) _ _ _ _

  graph-range : (p : List ℕ) (ms : MemberTrees) → AreInRange (graph_of number_of p (object ms))
  graph-range p no_members = tt
  graph-range p (member_then k t ms) = (kind-range (p ++ member_step k) t, graph-range p ms)

  pub range_steps : Steps Rule.RunAfter whole number_of (λ l. EachGraph AreInRange) (λ l. EachInside AreInRange)
      (λ l. EachIn AreInRange) (λ l. EachCase AreInRange)
  range_steps = each_steps Rule.RunAfter whole number_of AreInRange tt (λ l key p ms order fine. graph-range p ms)
