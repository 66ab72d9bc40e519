-- Graphs in which no action waits for itself, over whatever others.
use Rattle.std.specs.Prelude.{◌≢◌, ℕ, ◌<◌, List, [], ◌∷◌, length}
use Rattle.std.specs.List.{AllByRecursion}
use Rattle.wf_def.specs.ActionTree.{ActionTree, action_after, action_number}

-- no two actions have one number
abbrev pub NumbersDiffer : List ActionTree → Type 0
NumbersDiffer [] = Unit {0}
NumbersDiffer (a ∷ as') = AllByRecursion (λ b. action_number a ≢ action_number b) as' × NumbersDiffer as'

-- numbers tell actions apart and are below their count, and a rank falls from each action to all that it waits for
pub record AreOrdered (rank : ℕ → ℕ) (as' : List ActionTree) : Type 0 where
  pub differ : NumbersDiffer as'
  pub below : AllByRecursion (λ a. action_number a < length as') as'
  pub fall : AllByRecursion (λ a. AllByRecursion (λ e. rank e.number < rank (action_number a)) (action_after a)) as'
