-- On which level an action stands: one below the lowest of those that it waits for. In as many rounds as there are actions each action in
-- turn is put one below those that it waits for, as these stand; in a graph without cycles they come to rest before.
use Rattle.std.specs.Prelude.{ℕ, zero, suc, ◌+◌, ◌-◌, ◌^◌, List, [], ◌∷◌, length, max, min, replicate, slice_get, slice_set}
use Rattle.std.specs.Option.{unwrap_or}
use Rattle.wf_def.specs.ActionTree.{ActionTree, action_after, action_number, ActionTrees, no_actions, action_then}
use Rattle.wf_def.specs.AllActions.{all_actions}
use Rattle.wf_def.specs.declared.after.After.{After}

-- the level of the action of a number, counted from 0 at the top
abbrev pub level_at : List ℕ → ℕ → ℕ
level_at ls n = unwrap_or (slice_get ls n) 0

-- one below; cut to the greatest u64, which no definition comes to
abbrev pub one_below : ℕ → ℕ
one_below l = min (l + 1) (2 ^ 64 - 1)

-- below all these
abbrev pub below_all : List ℕ → List After → ℕ
below_all ls [] = 0
below_all ls (a ∷ as') = max (one_below (level_at ls a.number)) (below_all ls as')

abbrev pub put_below : List ℕ → ActionTree → List ℕ
put_below ls a = slice_set ls (action_number a) (below_all ls (action_after a))

abbrev pub put_all_below : List ℕ → List ActionTree → List ℕ
put_all_below ls [] = ls
put_all_below ls (a ∷ as') = put_all_below (put_below ls a) as'

abbrev pub rounds : ℕ → List ℕ → List ActionTree → List ℕ
rounds zero ls as' = ls
rounds (suc k) ls as' = put_all_below (rounds k ls as') as'

abbrev pub levels_of : List ActionTree → List ℕ
levels_of as' = rounds (length as') (replicate (length as') 0) as'

-- the levels of a definition's actions, at every depth
abbrev pub levels : ActionTrees → List ℕ
levels g = levels_of (all_actions g)

-- how many levels a graph has
abbrev pub depth : List ℕ → List ActionTree → ℕ
depth ls [] = 0
depth ls (a ∷ as') = max (one_below (level_at ls (action_number a))) (depth ls as')
