-- WHAT A PLAN HAS of a definition, by the list of all its actions.
use Rattle.std.specs.Prelude.{ℕ, zero, suc, Bool, List, [], ◌∷◌, ◌++◌, cond, Option, Some, None, map, option_map, length, replicate}
use Rattle.std.specs.List.{find}
use Rattle.wf_def.specs.Changes.{owns}
use Rattle.wf_def.specs.Definition as layers
use Rattle.wf_def.specs.Waiting.{times}
use Rattle.wf_def.specs.ActionTree.{ActionTree, action_after, action_kind, action_number, ActionTrees, CaseTrees, no_cases, case_then}
use Rattle.wf_def.specs.AllActions.{all_actions, has_number}
use Rattle.wf_def.specs.Layered.{layered, layered_kind, need_of}

-- ---- the graphs that an action holds

abbrev pub own_numbers : layers.Graph → List ℕ
own_numbers layers.done = []
own_numbers (layers.add n after kind rest) = n ∷ own_numbers rest

-- all that stand in a container in no loop there, an action before those inside it: what gets rows with it, where it doesn't run
abbrev mutual
  pub shown : layers.Kind → List ℕ
  shown layers.Leaf = []
  shown (layers.Scope g) = shown_in g
  shown (layers.Choice bs) = shown_any bs
  shown (layers.Foreach pace g) = []
  shown (layers.Until most g) = []

  pub shown_any : layers.Branches → List ℕ
  shown_any layers.no_branch = []
  shown_any (layers.branch b rest) = shown_in b ++ shown_any rest

  pub shown_in : layers.Graph → List ℕ
  shown_in layers.done = []
  shown_in (layers.add n after kind rest) = n ∷ (shown kind ++ shown_in rest)

-- a branch: its own actions, and all that stand in it in no loop there
pub record BranchTree : Type 0 where
  pub own : List ℕ
  pub all : List ℕ

-- each graph as the numbers of its actions, in their order
pub data ShapeTree : Type 0 where
  leaf : ShapeTree
  scope : List ℕ → ShapeTree
  choice : List BranchTree → ShapeTree
  foreach : layers.Pace → List ℕ → ShapeTree
  until : (most : ℕ) → List ℕ → ShapeTree

abbrev pub branch_of : layers.Graph → BranchTree
branch_of g = record { own = own_numbers g; all = shown_in g }

abbrev pub branches_of : layers.Branches → List BranchTree
branches_of layers.no_branch = []
branches_of (layers.branch b rest) = branch_of b ∷ branches_of rest

abbrev pub shape_of : layers.Kind → ShapeTree
shape_of layers.Leaf = leaf
shape_of (layers.Scope g) = scope (own_numbers g)
shape_of (layers.Choice bs) = choice (branches_of bs)
shape_of (layers.Foreach pace g) = foreach pace (own_numbers g)
shape_of (layers.Until most g) = until most (own_numbers g)

-- the cases of a Switch, and its default
abbrev pub case_branches : CaseTrees → List BranchTree
case_branches no_cases = []
case_branches (case_then name value graph rest) = branch_of (layered graph) ∷ case_branches rest

abbrev pub default_branch : Option ActionTrees → BranchTree
default_branch None = record { own = []; all = [] }
default_branch (Some graph) = branch_of (layered graph)

-- the branch of this number, counted from 1
abbrev pub taken_at : List BranchTree → ℕ → Option BranchTree
taken_at [] c = None
taken_at (b ∷ bs) c = cond (layers.is_one c) (Some b) (taken_at bs (layers.less_one c))

abbrev pub taken_of : ShapeTree → ℕ → Option BranchTree
taken_of (choice bs) c = taken_at bs c
taken_of leaf c = None
taken_of (scope ns) c = None
taken_of (foreach pace ns) c = None
taken_of (until most ns) c = None

-- What is passed over where the branch of this number is taken, counted from 1: all other branches; another number takes none.
abbrev pub passed_but : List BranchTree → ℕ → List ℕ
passed_but [] c = []
passed_but (b ∷ bs) c = cond (layers.is_one c) [] b.all ++ passed_but bs (layers.less_one c)

abbrev pub passed_over : ShapeTree → ℕ → List ℕ
passed_over (choice bs) c = passed_but bs c
passed_over leaf c = []
passed_over (scope ns) c = []
passed_over (foreach pace ns) c = []
passed_over (until most ns) c = []

-- ---- what it waits for, who waits for it, and what holds it

abbrev pub needs : ActionTree → List layers.Need
needs a = map need_of (action_after a)

-- of all that wait for the action of this number, the numbers in the order of the list; one that names it twice stands twice
abbrev pub followers_of : List ActionTree → ℕ → List ℕ
followers_of [] n = []
followers_of (a ∷ as') n = replicate (times (needs a) n) (action_number a) ++ followers_of as' n

abbrev pub holds_directly : ℕ → ActionTree → Bool
holds_directly n a = owns (Some (layered_kind (action_kind a))) n

-- the container in a graph of which it stands, if it stands in one
abbrev pub holder_of : List ActionTree → ℕ → Option ℕ
holder_of as' n = option_map action_number (find (holds_directly n) as')

-- ---- the plan

-- what an action waits for, which graphs it holds, and which actions get rows with it, where it doesn't run
pub record EntryTree : Type 0 where
  pub after : List layers.Need
  pub shape : ShapeTree
  pub block : List ℕ

abbrev pub entry_of : ActionTree → EntryTree
entry_of a = record {
  after = needs a;
  shape = shape_of (layered_kind (action_kind a));
  block = action_number a ∷ shown (layered_kind (action_kind a));
}

-- by the number of an action: where several have it, of the first
abbrev pub entry_for : List ActionTree → ℕ → Option EntryTree
entry_for as' n = option_map entry_of (find (has_number n) as')

pub record PlanTree : Type 0 where
  pub top : List ℕ
  pub entries : List (Option EntryTree)
  pub followers : List (List ℕ)
  pub holders : List (Option ℕ)

-- for so many numbers from k on
abbrev pub tabled : {A : Type 0} → ℕ → ℕ → (ℕ → A) → List A
tabled k zero f = []
tabled k (suc n) f = f k ∷ tabled (suc k) n f

-- of a graph whose actions, at any depth, are numbered from 0 on: the numbers of its own actions, and of each number what is said above
abbrev pub plan_of : ActionTrees → PlanTree
plan_of graph = record {
  top = own_numbers (layered graph);
  entries = tabled 0 (length (all_actions graph)) (entry_for (all_actions graph));
  followers = tabled 0 (length (all_actions graph)) (followers_of (all_actions graph));
  holders = tabled 0 (length (all_actions graph)) (holder_of (all_actions graph));
}
