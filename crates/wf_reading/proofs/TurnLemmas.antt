-- What is read may turn: a Foreach goes at one iteration at a time at least, and an Until has one at least.
use Rattle.std.proofs.Common.{◌≡◌, ℕ, ◌<◌, Bool, true, false, List, ◌++◌, Option, Some, None, bytes_eq, refl, arith}
use Rattle.std.specs.Prelude.{if◌then◌else◌, codes, unwrap_or, ℤ, pos, nat_le, ◌==◌}
use Rattle.std.proofs.lemmas.Bool.{leb-true}
use Rattle.wf_val.specs.ValueTree.{ValueTree, null, boolean, number, text, list, object, MemberTrees, no_members, member_then}
use Rattle.wf_form.specs.Pointer.{member_step}
use Rattle.wf_leaves.specs.ActionType.{type_of}
use Rattle.wf_leaves.specs.Containers.{limit, repetitions}
use Rattle.wf_leaves.specs.KindsActionType.{ActionType}
use Rattle.wf_def.specs.Definition as layers
use Rattle.wf_def.specs.ActionTree.{ActionTrees, no_actions, CaseTree, case_trees}
use Rattle.wf_def.specs.Layered.{layered, layered_cases, layered_kind, pace}
use Rattle.wf_reading.specs.Graphs.{branch_in, branch_of, cases_in, cases_of, each_case, graph_in, graph_of, has_option, kind_at, kind_with, number_in, repetitions_of, switch_of, within}

within-positive : (least most absent : ℕ) (z : ℤ) → 0 < least → 0 < absent → 0 < within least most absent z
within-positive least most absent (pos n) one other = elim (nat_le least n) as (λ b. nat_le least n ≡ b → 0 < within least most absent (pos n)) [
  | true ↦ λ is. elim (nat_le n most) as (λ b. nat_le n most ≡ b → 0 < within least most absent (pos n)) [
    | true ↦ λ too. rw (is, too) (omega (arith, leb-true least n is))
    | false ↦ λ too. rw (is, too) other
  ] refl
  | false ↦ λ is. rw is other
] refl
within-positive least most absent z one other = other

number_in-positive : (least most absent : ℕ) (value : Option ValueTree) → 0 < least → 0 < absent → 0 < number_in least most absent value
number_in-positive least most absent None one other = other
number_in-positive least most absent (Some null) one other = other
number_in-positive least most absent (Some (boolean b)) one other = other
number_in-positive least most absent (Some (number z)) one other = within-positive least most absent z one other
number_in-positive least most absent (Some (text s)) one other = other
number_in-positive least most absent (Some (list ts)) one other = other
number_in-positive least most absent (Some (object ms)) one other = other

repetitions-positive : (t : ValueTree) → 0 < repetitions_of t
repetitions-positive t = elim (has_option (codes "Sequential") t) as (λ (b : Bool). 0 < (if b then 1 else number_in 1 50 20 (repetitions t))) [
  | true ↦ omega arith
  | false ↦ number_in-positive 1 50 20 (repetitions t) (omega arith) (omega arith)
]

goes : (n : ℕ) → 0 < n → layers.Goes (pace n)
goes n one = elim (n == 1) as (λ (b : Bool). layers.Goes (if b then layers.InTurn else layers.AtMost n)) [
  | true ↦ tt
  | false ↦ one
]

module _ (number_of : List ℕ → ℕ) where
  -- whatever a value stands for
  record MayTurn (t : ValueTree) : Type 0 where
    graph : (p : List ℕ) → layers.Turns (layered (graph_of number_of p t))
    kind : (q : List ℕ) → layers.TurnsIn (layered_kind (kind_at number_of q t))
    branch : (p : List ℕ) → layers.Turns (layered (branch_of number_of p t))
    cases : (p : List ℕ) (last : layers.Branches) → layers.TurnsAny last → layers.TurnsAny (layered_cases (case_trees (cases_of number_of p t)) last)

  abbrev AllMayTurn : MemberTrees → Type 0
  AllMayTurn no_members = Unit {0}
  AllMayTurn (member_then k t ms) = MayTurn t × AllMayTurn ms

  abbrev TurnsOption : Option ActionTrees → Type 0
  TurnsOption None = Unit {0}
  TurnsOption (Some g) = layers.Turns (layered g)

  of_graph_in : (key p : List ℕ) (ms : MemberTrees) → AllMayTurn ms → layers.Turns (layered (graph_in number_of key p ms))
  of_graph_in key p no_members all = tt
  of_graph_in key p (member_then k t ms) all = elim (bytes_eq key k) as (λ (b : Bool). layers.Turns (layered (if b then graph_of number_of (p ++ member_step key) t else graph_in number_of key p ms))) [
    | true ↦ all.0.graph (p ++ member_step key)
    | false ↦ of_graph_in key p ms all.1
  ]

  of_branch_in : (key p : List ℕ) (ms : MemberTrees) → AllMayTurn ms → TurnsOption (branch_in number_of key p ms)
  of_branch_in key p no_members all = tt
  of_branch_in key p (member_then k t ms) all = elim (bytes_eq key k) as (λ (b : Bool). TurnsOption (if b then Some (branch_of number_of (p ++ member_step key) t) else branch_in number_of key p ms)) [
    | true ↦ all.0.branch (p ++ member_step key)
    | false ↦ of_branch_in key p ms all.1
  ]

  of_cases_in : (key p : List ℕ) (ms : MemberTrees) → AllMayTurn ms → (last : layers.Branches) → layers.TurnsAny last → layers.TurnsAny (layered_cases (case_trees (cases_in number_of key p ms)) last)
  of_cases_in key p no_members all last turns = turns
  of_cases_in key p (member_then k t ms) all last turns = elim (bytes_eq key k) as (λ (b : Bool). layers.TurnsAny (layered_cases (case_trees (if b then cases_of number_of (p ++ member_step key) t else cases_in number_of key p ms)) last)) [
    | true ↦ all.0.cases (p ++ member_step key) last turns
    | false ↦ of_cases_in key p ms all.1 last turns
  ]

  of_actions : (p : List ℕ) (ms : MemberTrees) → AllMayTurn ms → layers.Turns (layered (graph_of number_of p (object ms)))
  of_actions p no_members all = tt
  of_actions p (member_then k t ms) all = (all.0.kind (p ++ member_step k), of_actions p ms all.1)

  of_each : (p : List ℕ) (ms : MemberTrees) → AllMayTurn ms → (last : layers.Branches) → layers.TurnsAny last → layers.TurnsAny (layered_cases (case_trees (each_case number_of p ms)) last)
  of_each p no_members all last turns = turns
  of_each p (member_then k t ms) all last turns = (all.0.branch (p ++ member_step k), of_each p ms all.1 last turns)

  or_none : (g : Option ActionTrees) → TurnsOption g → layers.Turns (layered (unwrap_or g no_actions))
  or_none None turns = tt
  or_none (Some g) turns = turns

  of_switch : (t : ValueTree) (cs : List CaseTree) (g : Option ActionTrees) → TurnsOption g
      → ((last : layers.Branches) → layers.TurnsAny last → layers.TurnsAny (layered_cases (case_trees cs) last)) → layers.TurnsIn (layered_kind (switch_of t cs g))
  of_switch t cs None turns cases = cases (layers.branch layers.done layers.no_branch) (tt, tt)
  of_switch t cs (Some g) turns cases = cases (layers.branch (layered g) layers.no_branch) (turns, tt)

  of_kind : (type' : Option ActionType) (q : List ℕ) (t : ValueTree) (ms : MemberTrees) → AllMayTurn ms
      → layers.TurnsIn (layered_kind (kind_with type' t (graph_in number_of (codes "actions") q ms) (branch_in number_of (codes "else") q ms)
      (cases_in number_of (codes "cases") q ms) (branch_in number_of (codes "default") q ms)))
  of_kind None q t ms all = tt
  of_kind (Some ActionType.Compose) q t ms all = tt
  of_kind (Some ActionType.Connector) q t ms all = tt
  of_kind (Some ActionType.Wait) q t ms all = tt
  of_kind (Some ActionType.Response) q t ms all = tt
  of_kind (Some ActionType.Terminate) q t ms all = tt
  of_kind (Some ActionType.Select) q t ms all = tt
  of_kind (Some ActionType.Query) q t ms all = tt
  of_kind (Some ActionType.Join) q t ms all = tt
  of_kind (Some ActionType.ParseJson) q t ms all = tt
  of_kind (Some ActionType.InitializeVariable) q t ms all = tt
  of_kind (Some ActionType.SetVariable) q t ms all = tt
  of_kind (Some ActionType.IncrementVariable) q t ms all = tt
  of_kind (Some ActionType.DecrementVariable) q t ms all = tt
  of_kind (Some ActionType.AppendToArrayVariable) q t ms all = tt
  of_kind (Some ActionType.AppendToStringVariable) q t ms all = tt
  of_kind (Some ActionType.Scope) q t ms all = of_graph_in (codes "actions") q ms all
  of_kind (Some ActionType.If) q t ms all = (of_graph_in (codes "actions") q ms all, (or_none (branch_in number_of (codes "else") q ms) (of_branch_in (codes "else") q ms all), tt))
  of_kind (Some ActionType.Switch) q t ms all = of_switch t (cases_in number_of (codes "cases") q ms) (branch_in number_of (codes "default") q ms) (of_branch_in (codes "default") q ms all) (of_cases_in (codes "cases") q ms all)
  of_kind (Some ActionType.Foreach) q t ms all = (goes (repetitions_of t) (repetitions-positive t), of_graph_in (codes "actions") q ms all)
  of_kind (Some ActionType.Until) q t ms all = (number_in-positive 1 5000 60 (limit (codes "count") t) (omega arith) (omega arith), of_graph_in (codes "actions") q ms all)

  mutual
    turns : (t : ValueTree) → MayTurn t
    turns null = record { graph = λ p. tt; kind = λ q. tt; branch = λ p. tt; cases = λ p last is. is }
    turns (boolean b) = record { graph = λ p. tt; kind = λ q. tt; branch = λ p. tt; cases = λ p last is. is }
    turns (number n) = record { graph = λ p. tt; kind = λ q. tt; branch = λ p. tt; cases = λ p last is. is }
    turns (text s) = record { graph = λ p. tt; kind = λ q. tt; branch = λ p. tt; cases = λ p last is. is }
    turns (list ts) = record { graph = λ p. tt; kind = λ q. tt; branch = λ p. tt; cases = λ p last is. is }
    turns (object ms) = record {
      graph = λ p. of_actions p ms (all_turn ms);
      kind = λ q. of_kind (type_of (object ms)) q (object ms) ms (all_turn ms);
      branch = λ p. of_graph_in (codes "actions") p ms (all_turn ms);
      cases = λ p last is. of_each p ms (all_turn ms) last is;
    }

    all_turn : (ms : MemberTrees) → AllMayTurn ms
    all_turn no_members = tt
    all_turn (member_then k t ms) = (turns t, all_turn ms)

  -- the graph that a value is
  pub graph-turns : (p : List ℕ) (t : ValueTree) → layers.Turns (layered (graph_of number_of p t))
  graph-turns p t = (turns t).graph p
