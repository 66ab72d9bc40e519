-- Which graph a value means. A pointer leads to the value that is read, and `number_of` gives an action's number by its name.
use Rattle.std.specs.Prelude.{ℕ, ℤ, pos, Bool, ◌&&◌, nat_le, List, [], ◌∷◌, ◌++◌, Option, Some, None, if◌then◌else◌, bytes_eq, codes, unwrap_or}
use Rattle.wf_val.specs.ValueTree.{ValueTree, null, number, object, MemberTrees, no_members, member_then}
use Rattle.wf_val.specs.Get.{get}
use Rattle.wf_template.specs.DataTree.{DataMember}
use Rattle.wf_form.specs.Pointer.{member_step}
use Rattle.wf_leaves.specs.Containers.{limit, repetitions}
use Rattle.wf_leaves.specs.ActionType.{type_of}
use Rattle.wf_leaves.specs.KindsActionType.{ActionType}
use Rattle.wf_def.specs.ActionTree.{ActionTree, action, KindTree, scope, branch, switch, switch_else, foreach, until, ActionTrees, no_actions, action_trees, CaseTree, case_trees}
use Rattle.wf_leaves.specs.Texts.{data_in, members_of, template_at, text_in}
use Rattle.wf_leaves.specs.Conditions.{condition_at}
use Rattle.wf_reading.specs.Afters.{afters_of}
use Rattle.wf_leaves.specs.Leaves.{leaf_of, nothing}
use Rattle.wf_leaves.specs.Options.{lists_option}

-- an option of an action
abbrev pub has_option : List ℕ → ValueTree → Bool
has_option word t = lists_option word (text_in (get (codes "operationOptions") t))

-- a number between two, or what stands for one that is absent
abbrev pub within : ℕ → ℕ → ℕ → ℤ → ℕ
within least most absent (pos n) = if nat_le least n && nat_le n most then n else absent
within least most absent z = absent

abbrev pub number_in : ℕ → ℕ → ℕ → Option ValueTree → ℕ
number_in least most absent (Some (number z)) = within least most absent z
number_in least most absent t = absent

-- how many iterations of a Foreach go at a time
abbrev pub repetitions_of : ValueTree → ℕ
repetitions_of t =
    if has_option (codes "Sequential") t then 1
    else number_in 1 50 20 (repetitions t)

-- how many iterations an Until has at most
abbrev pub count_of : ValueTree → ℕ
count_of t = number_in 1 5000 60 (limit (codes "count") t)

abbrev pub switch_of : ValueTree → List CaseTree → Option ActionTrees → KindTree
switch_of t cases None = switch (template_at (get (codes "expression") t)) (case_trees cases)
switch_of t cases (Some default) = switch_else (template_at (get (codes "expression") t)) (case_trees cases) default

-- what an action of a type does, with the graphs that its members `actions`, `else`, `cases` and `default` hold
abbrev pub kind_with : Option ActionType → ValueTree → ActionTrees → Option ActionTrees → List CaseTree → Option ActionTrees → KindTree
kind_with (Some ActionType.Scope) t main other cases default = scope main
kind_with (Some ActionType.If) t main other cases default = branch (condition_at (get (codes "expression") t)) main (unwrap_or other no_actions)
kind_with (Some ActionType.Switch) t main other cases default = switch_of t cases default
kind_with (Some ActionType.Foreach) t main other cases default = foreach (data_in (get (codes "foreach") t)) (repetitions_of t) main
kind_with (Some ActionType.Until) t main other cases default = until (condition_at (get (codes "expression") t)) (count_of t) (has_option (codes "FailWhenLimitsReached") t) main
kind_with (Some leaf) t main other cases default = leaf_of leaf t
kind_with None t main other cases default = nothing

-- the member `trackedProperties`
abbrev pub tracked_in : Option ValueTree → List DataMember
tracked_in (Some (object ms)) = members_of ms
tracked_in t = []

abbrev pub value_in : Option ValueTree → ValueTree
value_in value = unwrap_or value null

module _ (number_of : List ℕ → ℕ) where
  -- an action of a name, at a pointer, of a kind
  abbrev pub action_with : List ℕ → List ℕ → ValueTree → KindTree → ActionTree
  action_with k pointer t kind = action k (number_of k) pointer (afters_of number_of (get (codes "runAfter") t)) kind (tracked_in (get (codes "trackedProperties") t))

  abbrev mutual
    pub graph_of : List ℕ → ValueTree → ActionTrees
    graph_of prefix (object ms) = action_trees (actions_of prefix ms)
    graph_of prefix t = no_actions

    pub actions_of : List ℕ → MemberTrees → List ActionTree
    actions_of prefix no_members = []
    actions_of prefix (member_then k t ms) =
        action_with k (prefix ++ member_step k) t (kind_at (prefix ++ member_step k) t) ∷ actions_of prefix ms

    pub kind_at : List ℕ → ValueTree → KindTree
    kind_at pointer (object ms) =
        kind_with (type_of (object ms)) (object ms)
        (graph_in (codes "actions") pointer ms) (branch_in (codes "else") pointer ms)
        (cases_in (codes "cases") pointer ms) (branch_in (codes "default") pointer ms)
    kind_at pointer t = nothing

    -- the graph under a key
    pub graph_in : List ℕ → List ℕ → MemberTrees → ActionTrees
    graph_in key prefix no_members = no_actions
    graph_in key prefix (member_then k t ms) = if bytes_eq key k then graph_of (prefix ++ member_step key) t else graph_in key prefix ms

    -- the graph in the branch under a key, where there is such a branch
    pub branch_in : List ℕ → List ℕ → MemberTrees → Option ActionTrees
    branch_in key prefix no_members = None
    branch_in key prefix (member_then k t ms) = if bytes_eq key k then Some (branch_of (prefix ++ member_step key) t) else branch_in key prefix ms

    pub branch_of : List ℕ → ValueTree → ActionTrees
    branch_of prefix (object ms) = graph_in (codes "actions") prefix ms
    branch_of prefix t = no_actions

    -- the cases under a key
    pub cases_in : List ℕ → List ℕ → MemberTrees → List CaseTree
    cases_in key prefix no_members = []
    cases_in key prefix (member_then k t ms) = if bytes_eq key k then cases_of (prefix ++ member_step key) t else cases_in key prefix ms

    pub cases_of : List ℕ → ValueTree → List CaseTree
    cases_of prefix (object ms) = each_case prefix ms
    cases_of prefix t = []

    pub each_case : List ℕ → MemberTrees → List CaseTree
    each_case prefix no_members = []
    each_case prefix (member_then k t ms) = (k, (value_in (get (codes "case") t), branch_of (prefix ++ member_step k) t)) ∷ each_case prefix ms

-- the action that a value is, at a pointer
abbrev pub action_of : (List ℕ → ℕ) → List ℕ → List ℕ → ValueTree → ActionTree
action_of number_of pointer k t = action_with number_of k pointer t (kind_at number_of pointer t)

-- and the case that one is
abbrev pub case_of : (List ℕ → ℕ) → List ℕ → List ℕ → ValueTree → CaseTree
case_of number_of pointer k t = (k, (value_in (get (codes "case") t), branch_of number_of pointer t))
