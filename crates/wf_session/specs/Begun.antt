-- HOW FAR A RUN HAS COME with the answers that are there.
use Rattle.std.specs.Prelude.{◌<◌, ◌+◌, ℕ, Bool, List}
use Rattle.wf_lists.specs.KeyOrder.{IsInKeyOrder}
use Rattle.wf_answers.specs.AnswerTree.{Key, find_answer}
use Rattle.wf_asks.specs.Instances.{instance_cmp}
use Rattle.wf_asks.specs.declared.known.OpenAt.{OpenAt}
use Rattle.wf_asks.specs.declared.known.RowAt.{RowAt}
use Rattle.wf_asks.specs.declared.known.WriterAt.{WriterAt}
use Rattle.wf_def.specs.DefTree.{DefTree}
use Rattle.wf_done.specs.DoneSeen.{begun_tree}
use Rattle.wf_done.specs.declared.leaf.Begun.{Begun}
use Rattle.wf_stands.specs.Weights.{begun_weight, decision_weight}
use Rattle.wf_environment.specs.Environment.{Environment}
use Rattle.wf_layers.specs.Definition.{Graph}
use Rattle.wf_layers.specs.Machine.{Event, fresh, has_ended}
use Rattle.wf_runnable.specs.Priced.{lists_cost}
use Rattle.wf_planned.specs.Answering.{RowSource}
use Rattle.wf_planned.specs.Points.{graph_of}
use Rattle.wf_planned.specs.Record.{depth_of}
use Rattle.wf_opening.specs.DecisionSeen.{decision_tree, verdict_tree}
use Rattle.wf_opening.specs.declared.decide.Decision.{Decision}
use Rattle.wf_opening.specs.declared.verdict.Verdict.{Verdict}
use Rattle.wf_stands.specs.Costs.{cost_of_row, first_cost}
use Rattle.wf_quiet.specs.Quiet.{Answers, AnsweredRun, IsQuietState}
use Rattle.wf_record.specs.declared.row.Row.{Row}
use Rattle.wf_stands.specs.Answered.{answered}
use Rattle.wf_stands.specs.Moment.{Moment}
use Rattle.wf_planned.specs.Shown.{shown}
use Rattle.wf_tables.specs.declared.entries.LeafAt.{LeafAt}
use Rattle.wf_stands.specs.Seen.{row_content}
use Rattle.wf_runnable.specs.Meant.{definition_of, environment_of, source}
use Rattle.wf_runnable.specs.Actions.{Actions}

-- what a run goes by: a definition, an environment, and the source of its rows
pub record Going : Type 0 where
  pub definition : DefTree
  pub environment : Environment
  pub by : RowSource

-- one whose actions these are
abbrev pub going : Actions → Going
going a = record { definition = definition_of a; environment = environment_of a; by = source a }

-- a state as it is kept, and as the laws see it
abbrev pub Lists : Type 0
Lists = List (RowAt Row) × (List (LeafAt Begun) × (List (OpenAt Decision Verdict) × List WriterAt))

abbrev pub moment : Lists → Moment
moment h = shown row_content begun_tree decision_tree verdict_tree h

-- What stands at an instance is listed once, in the order of instances.
pub record AreListed (h : Lists) : Type 0 where
  pub rows : IsInKeyOrder instance_cmp (λ (r : RowAt Row). r.instance) h.0
  pub running : IsInKeyOrder instance_cmp (λ (l : LeafAt Begun). l.instance) h.1.0
  pub opens : IsInKeyOrder instance_cmp (λ (o : OpenAt Decision Verdict). o.instance) h.1.1.0

module _ (g : Going) where
  abbrev pub graph : Graph
  graph = graph_of g.definition

  -- whether there is an answer: for an attempt at an instance, and for a key
  abbrev pub answered_in : Answers
  answered_in = answered g.definition g.environment.inputs

  abbrev pub has_answer : Key → Bool
  has_answer k = has_ended (find_answer k g.environment.inputs.answers)

  -- what it has cost so far
  abbrev pub price : Lists → ℕ
  price h =
      first_cost g.environment.start
      + lists_cost row_content begun_tree decision_tree verdict_tree graph (depth_of g.definition) g.by cost_of_row begun_weight
      decision_weight h.0 h.1.0 h.1.1.0

  -- A run with the answers that are there leads to it.
  pub record Comes (h : Lists) : Type 0 where
    pub events : List Event
    pub run : AnsweredRun answered_in graph g.by fresh events (moment h)

  -- It is the quiet one.
  abbrev pub IsStill : Lists → Type 0
  IsStill h = IsQuietState answered_in graph g.by (moment h)

  -- It comes to a moment at which it costs too much.
  pub record IsDear : Type 0 where
    pub lists : Lists
    pub listed : AreListed lists
    pub comes : Comes lists
    pub beyond : 67108864 < price lists
