-- THE OLD ANSWERS: inputs that hand in, for what is redone and for the section `outputs`, what the older run went by.
use Rattle.std.specs.Prelude.{◌≡◌, ℕ, List, true}
use Rattle.wf_def.specs.DefTree.{DefTree}
use Rattle.wf_answers.specs.AnswerTree.{find_answer}
use Rattle.wf_answers.specs.Inputs.{InputsTree}
use Rattle.wf_environment.specs.Environment.{Environment, Facts, facts_of, last_facts, layer_facts}
use Rattle.wf_anew.specs.Layer.{redone_names}

-- they tell the same of the run: its name, the seed of its words, and the moment
pub record SameWords (f g : Facts) : Type 0 where
  pub run : f.run ≡ g.run
  pub seed : f.seed ≡ g.seed
  pub moment : f.moment ≡ g.moment

-- and answer the action of this name alike, in each iteration and at each attempt
abbrev pub SameAnswers : List ℕ → Facts → Facts → Type 0
SameAnswers name f g =
    (at : List ℕ) (attempt : ℕ) → find_answer (record { name = name; at = at }, attempt) f.answers
    ≡ find_answer (record { name = name; at = at }, attempt) g.answers

-- for the actions that a resubmission from those of these numbers redoes
pub record GivesTheOld (d : DefTree) (e : Environment) (from : List ℕ) (i : InputsTree) : Type 0 where
  pub words : (name : List ℕ) → redone_names d from name ≡ true → SameWords (layer_facts i) (facts_of e name)
  pub answers : (name : List ℕ) → redone_names d from name ≡ true → SameAnswers name (layer_facts i) (facts_of e name)
  -- for the section `outputs`, and for the record's name
  pub last : SameWords (layer_facts i) (last_facts e)
