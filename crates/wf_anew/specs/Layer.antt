-- THE FRESH RUN beside a resubmission: the environment of the older run with one layer more, for what is done anew.
use Rattle.std.specs.Prelude.{◌≡◌, ◌↔◌, ℕ, Bool, true, false, List, [], ◌∷◌, ◌++◌, Option, None, Some}
use Rattle.std.specs.List.{AllByRecursion}
use Rattle.wf_layers.specs.Redo.{closed_again, redone}
use Rattle.wf_layers.specs.Resubmission.{kept}
use Rattle.wf_def.specs.ActionTree.{ActionTree, action_name, action_number}
use Rattle.wf_def.specs.AllActions.{all_actions}
use Rattle.wf_def.specs.DefTree.{DefTree}
use Rattle.wf_order.specs.Order.{Contains}
use Rattle.wf_redo.specs.Redoes.{RedoneWithOne}
use Rattle.wf_answers.specs.Inputs.{InputsTree}
use Rattle.wf_environment.specs.Environment.{Environment, Layer}
use Rattle.wf_turns.specs.Points.{action_named, graph_of}
use Rattle.wf_turns.specs.Record.{depth_of}
use Rattle.wf_turns.specs.Resubmitted.{is_chosen}

-- the environment with one layer more, which counts before all others
abbrev pub with_layer : Environment → Layer → Environment
with_layer e layer = record { start = e.start; inputs = e.inputs; layers = e.layers ++ layer ∷ [] }

-- of an action, by its number
abbrev pub if_found : (ℕ → Bool) → Option ActionTree → Bool
if_found holds None = false
if_found holds (Some a) = holds (action_number a)

module _ (d : DefTree) (from : List ℕ) where
  -- the names of the actions that a resubmission from those of these numbers redoes
  abbrev pub redone_names : List ℕ → Bool
  redone_names name = if_found (redone (graph_of d) (depth_of d) (is_chosen from)) (action_named d name)

  -- and of those that it keeps as they are
  abbrev pub kept_names : List ℕ → Bool
  kept_names name =
      if_found (kept (redone (graph_of d) (depth_of d) (is_chosen from)) (closed_again (graph_of d) (depth_of d) (is_chosen from)))
      (action_named d name)

  -- what is redone goes by these inputs
  abbrev pub layer_of : InputsTree → Layer
  layer_of i = record { redone = redone_names; inputs = i }

-- In other words, of each action of the definition: it is redone exactly where it is one of these, stands inside one, or comes after one;
-- and it is kept exactly where it isn't, and contains none.
pub record NamesWhatIsRedone (d : DefTree) (from : List ℕ) : Type 0 where
  pub redone : AllByRecursion
      (λ a. (redone_names d from (action_name a) ≡ true) ↔ RedoneWithOne (graph_of d) (is_chosen from) (action_number a))
      (all_actions d.top)
  pub kept : AllByRecursion
      (λ a. (kept_names d from (action_name a) ≡ true)
      ↔ ((RedoneWithOne (graph_of d) (is_chosen from) (action_number a) → ⊥)
      × ((n : ℕ) → is_chosen from n ≡ true → Contains (graph_of d) (action_number a) n → ⊥)))
      (all_actions d.top)
