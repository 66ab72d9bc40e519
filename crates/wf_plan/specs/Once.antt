-- LISTS IN WHICH EACH STANDS ONCE.
use Rattle.std.specs.Prelude.{◌≡◌, ⊤, ℕ, ◌≤◌, Bool, false, ◌||◌, List, [], ◌∷◌, nat_eq}
use Rattle.std.specs.List.{AllByRecursion}
use Rattle.wf_def.specs.Waiting.{times}
use Rattle.wf_def.specs.ActionTree.{ActionTree, action_number, ActionTrees}
use Rattle.wf_def.specs.AllActions.{all_actions}
use Rattle.wf_asks.specs.Known.{is_among}
use Rattle.wf_plan.specs.Plan.{followers_of, needs}

-- each number once
abbrev pub AreDistinct : List ℕ → Type 0
AreDistinct [] = ⊤
AreDistinct (n ∷ ns) = (is_among n ns ≡ false) × AreDistinct ns

-- an action of the list has the number
abbrev pub has_one : List ActionTree → ℕ → Bool
has_one [] q = false
has_one (a ∷ as') q = nat_eq (action_number a) q || has_one as' q

-- each action has a number of its own
abbrev pub AreApart : List ActionTree → Type 0
AreApart [] = ⊤
AreApart (a ∷ as') = (has_one as' (action_number a) ≡ false) × AreApart as'

-- each names an action once at most
abbrev pub NamesOnce : ActionTree → Type 0
NamesOnce a = (n : ℕ) → times (needs a) n ≤ 1

-- In a graph in which each number stands once all actions are apart; and where each names an action once at most, each stands once among
-- those that wait for another.
pub record StandOnce (graph : ActionTrees) : Type 0 where
  pub apart : AreApart (all_actions graph)
  pub followers : AllByRecursion NamesOnce (all_actions graph) → (n : ℕ) → AreDistinct (followers_of (all_actions graph) n)
