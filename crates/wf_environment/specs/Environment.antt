-- What a run goes by: how it was started, and its inputs.
use Rattle.std.specs.Prelude.{ℕ, Bool, List, [], ◌∷◌, if◌then◌else◌}
use Rattle.wf_trigger.specs.AnswerTree.{AnswerTree}
use Rattle.wf_trigger.specs.Inputs.{InputsTree}
use Rattle.wf_trigger.specs.Starts.{StartTree}

-- Inputs that hold for a set of actions, by their names: those that were done anew with these inputs.
pub record Layer : Type 0 where
  pub redone : List ℕ → Bool
  pub inputs : InputsTree

-- The start and the inputs of the run that came first, and a layer for each time that a part of it was done anew. A run that
-- isn't made from another has no layers.
pub record Environment : Type 0 where
  pub start : StartTree
  pub inputs : InputsTree
  pub layers : List Layer

abbrev pub fresh : StartTree → InputsTree → Environment
fresh start inputs = record { start = start; inputs = inputs; layers = [] }

-- What an action is told of its run: the run's name, the seed of its words, the moment, and what each attempt came to.
pub record Facts : Type 0 where
  pub run : List ℕ
  pub seed : List ℕ
  pub moment : ℕ
  pub answers : List AnswerTree

-- Each run of a split has a name and a seed of its own, which its start says; the moment and the answers are those of all.
abbrev pub first_facts : Environment → Facts
first_facts e = record { run = e.start.run; seed = e.start.seed; moment = e.inputs.moment; answers = e.inputs.answers }

abbrev pub layer_facts : InputsTree → Facts
layer_facts i = record { run = i.run; seed = i.seed; moment = i.moment; answers = i.answers }

-- what an action goes by whose name this is, where it went by these facts before any of the layers
abbrev pub facts_over : List ℕ → Facts → List Layer → Facts
facts_over name facts [] = facts
facts_over name facts (layer ∷ layers) = facts_over name (if layer.redone name then layer_facts layer.inputs else facts) layers

-- An action goes by the last layer that has it, else by the run that came first.
abbrev pub facts_of : Environment → List ℕ → Facts
facts_of e name = facts_over name (first_facts e) e.layers

abbrev pub last_over : Facts → List Layer → Facts
last_over facts [] = facts
last_over facts (layer ∷ layers) = last_over (layer_facts layer.inputs) layers

-- The section `outputs` and the record itself go by the last layer, whatever it has, else by the run that came first.
abbrev pub last_facts : Environment → Facts
last_facts e = last_over (first_facts e) e.layers
