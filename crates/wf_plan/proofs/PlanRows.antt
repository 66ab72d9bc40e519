-- Worked rows of a plan. 0 waits for nothing; 1 is an If that waits for it, with 2 and behind it 3 in its first branch, and no action in
-- the other; 4 is a Foreach that waits for 0 and 1, and 5 is in it.
use Rattle.std.proofs.Common.{◌≡◌, ℕ, true, false, List, [], ◌∷◌, Some, None, refl, true≢false}
use Rattle.wf_def.specs.Definition as layers
use Rattle.wf_template.specs.CondTree.{CondTree}
use Rattle.wf_template.specs.DataTree.{DataTree}
use Rattle.wf_def.specs.ActionTree.{ActionTree, action, KindTree, initialize, branch, foreach, ActionTrees, no_actions, action_then}
use Rattle.wf_def.specs.AllActions.{all_actions}
use Rattle.wf_def.specs.declared.after.After.{After}
use Rattle.wf_def.specs.declared.after.Statuses.{Statuses}
use Rattle.wf_plan.specs.Once.{AreApart, AreDistinct}
use Rattle.wf_plan.specs.Plan as plan
use Rattle.wf_plan.specs.PlanOf.{in_other}
use Rattle.wf_plan.specs.Plan.{BranchTree, ShapeTree, entry_for, passed_over, shown_in, taken_of, followers_of, holder_of, plan_of}

abbrev listed_statuses : Statuses
listed_statuses = record { succeeded = true; failed = false; skipped = false; timed_out = true }

abbrev after : List ℕ → List After
after [] = []
after (n ∷ ns) = record { name = []; number = n; statuses = listed_statuses } ∷ after ns

abbrev one : ℕ → List ℕ → KindTree → ActionTree
one n ns kind = action [] n [] (after ns) kind []

module _ (test : CondTree) (items : DataTree) where
  abbrev graph : ActionTrees
  graph =
      action_then (one 0 [] (initialize []))
      (action_then (one 1 (0 ∷ [])
      (branch test (action_then (one 2 [] (initialize [])) (action_then (one 3 (2 ∷ []) (initialize [])) no_actions)) no_actions))
      (action_then (one 4 (0 ∷ 1 ∷ []) (foreach items 20 (action_then (one 5 [] (initialize [])) no_actions))) no_actions))

  abbrev all : List ActionTree
  all = all_actions graph

  abbrev listed : List layers.Status
  listed = layers.Succeeded ∷ layers.TimedOut ∷ []

  -- the If's second branch has no action
  abbrev branches : List ℕ → List ℕ → List BranchTree
  branches own all = record { own = own; all = all } ∷ record { own = []; all = [] } ∷ []

  if_has_branches : entry_for all 1
      ≡ Some (record {
        after = record { name = 0; listed = listed } ∷ [];
        shape = plan.choice (branches (2 ∷ 3 ∷ []) (2 ∷ 3 ∷ []));
        block = 1 ∷ 2 ∷ 3 ∷ [];
      })
  if_has_branches = refl

  foreach_is_beside : entry_for all 4
      ≡ Some (record {
        after = record { name = 0; listed = listed } ∷ record { name = 1; listed = listed } ∷ [];
        shape = plan.foreach (layers.AtMost 20) (5 ∷ []);
        block = 4 ∷ [];
      })
  foreach_is_beside = refl

  leaf_has_none : entry_for all 3 ≡ Some (record { after = record { name = 2; listed = listed } ∷ []; shape = plan.leaf; block = 3 ∷ [] })
  leaf_has_none = refl

  no_action : entry_for all 6 ≡ None
  no_action = refl

  both_wait : followers_of all 0 ≡ 1 ∷ 4 ∷ []
  both_wait = refl

  in_its_branch : followers_of all 2 ≡ 3 ∷ []
  in_its_branch = refl

  none_waits : followers_of all 4 ≡ []
  none_waits = refl

  at_the_top : holder_of all 4 ≡ None
  at_the_top = refl

  in_the_if : holder_of all 3 ≡ Some 1
  in_the_if = refl

  in_the_foreach : holder_of all 5 ≡ Some 4
  in_the_foreach = refl

  top : (plan_of graph).top ≡ 0 ∷ 1 ∷ 4 ∷ []
  top = refl

  whole : (plan_of graph).holders ≡ None ∷ None ∷ Some 1 ∷ Some 1 ∷ None ∷ Some 4 ∷ []
  whole = refl

  apart : AreApart all
  apart = (refl, (refl, (refl, (refl, (refl, (refl, tt))))))

-- one that names another twice stands twice among those that wait for it
twice : followers_of (one 7 (0 ∷ 0 ∷ []) (initialize []) ∷ []) 0 ≡ 7 ∷ 7 ∷ []
twice = refl

twice_is_not_once : AreDistinct (7 ∷ 7 ∷ []) → ⊥
twice_is_not_once once = true≢false once.0

-- where a branch is taken, the others are passed over; a number that no branch has takes none
abbrev two_branches : ShapeTree
two_branches = plan.choice (record { own = 2 ∷ []; all = 2 ∷ 3 ∷ [] } ∷ record { own = 4 ∷ 5 ∷ []; all = 4 ∷ 5 ∷ [] } ∷ [])

first_is_taken : passed_over two_branches 1 ≡ 4 ∷ 5 ∷ []
first_is_taken = refl

second_is_taken : passed_over two_branches 2 ≡ 2 ∷ 3 ∷ []
second_is_taken = refl

none_is_taken : passed_over two_branches 0 ≡ 2 ∷ 3 ∷ 4 ∷ 5 ∷ []
none_is_taken = refl

past_the_last : passed_over two_branches 3 ≡ 2 ∷ 3 ∷ 4 ∷ 5 ∷ []
past_the_last = refl

scopes_pass_nothing_over : passed_over (plan.scope (2 ∷ [])) 1 ≡ []
scopes_pass_nothing_over = refl

-- a Scope with 1 and a Foreach 2, in which 3 is; and behind it 4: what is in the loop stands in no block of what is round it
abbrev with_loop : layers.Graph
with_loop =
    layers.add 0 []
    (layers.Scope (layers.add 1 [] layers.Leaf
    (layers.add 2 [] (layers.Foreach layers.InTurn (layers.add 3 [] layers.Leaf layers.done)) layers.done)))
    (layers.add 4 [] layers.Leaf layers.done)

loops_are_left_out : shown_in with_loop ≡ 0 ∷ 1 ∷ 2 ∷ 4 ∷ []
loops_are_left_out = refl

-- by branches of a graph
abbrev branched : layers.Branches
branched =
    layers.branch (layers.add 2 [] (layers.Until 5 (layers.add 3 [] layers.Leaf layers.done)) layers.done)
    (layers.branch (layers.add 4 [] layers.Leaf layers.done) layers.no_branch)

in_the_other : in_other branched 2 2 ≡ true
in_the_other = refl

in_the_taken : in_other branched 1 2 ≡ false
in_the_taken = refl

in_a_loop_there : in_other branched 2 3 ≡ false
in_a_loop_there = refl

in_none : in_other branched 1 7 ≡ false
in_none = refl

second_taken : taken_of two_branches 2 ≡ Some (record { own = 4 ∷ 5 ∷ []; all = 4 ∷ 5 ∷ [] })
second_taken = refl

counted_from_one : taken_of two_branches 0 ≡ None
counted_from_one = refl

behind_the_last : taken_of two_branches 3 ≡ None
behind_the_last = refl
