-- THE MOMENTS OF A RUN that has some of its answers.
use Rattle.std.specs.Prelude.{◌≡◌, ℕ, ◌+◌, List}
use Rattle.wf_layers.specs.Address.{Address}
use Rattle.wf_layers.specs.Listed.{sum_of}
use Rattle.wf_layers.specs.Machine.{Event, Opening, Running, State, fresh}
use Rattle.wf_quiet.specs.Quiet.{AnsweredRun, IsQuietState, IsWanted}
use Rattle.wf_meter.specs.Cost.{leaf_cost, open_cost}
use Rattle.wf_answered.specs.Answered.{answered}
use Rattle.wf_answers.specs.Inputs.{InputsTree}
use Rattle.wf_def.specs.DefTree.{DefTree}
use Rattle.wf_answered.specs.Leaf.{BegunTree}
use Rattle.wf_doing.specs.Weights.{begun_weight, decision_weight}
use Rattle.wf_answered.specs.Environment as environment
use Rattle.wf_layers.specs.Source.{Source}
use Rattle.wf_answered.specs.Points.{graph_of}
use Rattle.wf_answered.specs.Source.{source}
use Rattle.wf_answered.specs.Decisions.{DecisionTree, items_of}
use Rattle.wf_answered.specs.Verdicts.{VerdictTree}
use Rattle.wf_doing.specs.Costs.{cost_of_row, first_cost}
use Rattle.wf_priced.specs.Priced.{TellsRows}
use Rattle.wf_record.specs.Record.{Row}
use Rattle.wf_answered.specs.Starts.{StartTree}

abbrev pub Moment : Type 0
Moment = State Row BegunTree DecisionTree VerdictTree

-- what the definition's actions come to in a run that starts so
abbrev pub source_of : DefTree → StartTree → InputsTree → Source Row BegunTree DecisionTree VerdictTree
source_of d start inputs = source d (environment.fresh start inputs)

-- WHAT A MOMENT COSTS: what the run was started with, its rows, its running leaves and its open containers, each counted once.
pub record Costs (d : DefTree) (start : StartTree) (s : Moment) (cost : ℕ) : Type 0 where
  pub rows : List (Address × Row)
  pub leaves : List (Address × Running BegunTree)
  pub opens : List (Address × Opening DecisionTree VerdictTree)
  pub rows_are : TellsRows (λ p. p.0) (λ p. p.1) s.rows rows
  pub leaves_are : TellsRows (λ p. p.0) (λ p. p.1) s.running leaves
  pub opens_are : TellsRows (λ p. p.0) (λ p. p.1) s.opens opens
  pub sum_is : cost ≡ first_cost start + sum_of (λ p. cost_of_row p.1) rows + sum_of (λ p. leaf_cost begun_weight p.1) leaves
      + sum_of (λ p. open_cost (graph_of d) items_of decision_weight p.0 p.1) opens

module _ (d : DefTree) (start : StartTree) (inputs : InputsTree) where
  -- The run comes to this moment with the answers that are there.
  pub record ComesTo (s : Moment) : Type 0 where
    pub events : List Event
    pub run : AnsweredRun (answered d inputs) (graph_of d) (source_of d start inputs) fresh events s

  -- With them it comes to no further one.
  abbrev pub IsStill : Moment → Type 0
  IsStill s = IsQuietState (answered d inputs) (graph_of d) (source_of d start inputs) s

  -- The attempt waits for its answer.
  abbrev pub Waits : Moment → Address → ℕ → Type 0
  Waits s x attempt = IsWanted (answered d inputs) (graph_of d) (source_of d start inputs) s x attempt
