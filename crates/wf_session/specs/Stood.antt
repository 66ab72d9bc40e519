-- What a run is kept by between two answers.
use Rattle.std.specs.Prelude.{◌≤◌, ℕ, List, [], Option, Some, None}
use Rattle.wf_answers.specs.AnswerTree.{Key}
use Rattle.wf_answers.specs.Inputs.{InputsTree}
use Rattle.wf_answers.specs.InputsSeen.{inputs_tree}
use Rattle.wf_answers.specs.declared.inputs.Inputs.{Inputs}
use Rattle.wf_asks.specs.Known.{store_in, writer}
use Rattle.wf_def.specs.DefTree.{DefTree}
use Rattle.wf_done.specs.DoneSeen.{begun_tree}
use Rattle.wf_stands.specs.Costs.{cost_of_row}
use Rattle.wf_stands.specs.Weights.{begun_weight, decision_weight}
use Rattle.wf_environment.specs.Environment.{fresh}
use Rattle.wf_kept.specs.Counted.{AreCounts}
use Rattle.wf_kept.specs.Event.{AreLeft}
use Rattle.wf_kept.specs.Ready.{IsReady}
use Rattle.wf_layers.specs.Variables.{IsLastWritten}
use Rattle.wf_runnable.specs.Sums.{AreSumsOf}
use Rattle.wf_opening.specs.DecisionSeen.{decision_tree, verdict_tree}
use Rattle.wf_reading.specs.ReadSeen.{def_tree}
use Rattle.wf_stands.specs.Checked.{Checked}
use Rattle.wf_runnable.specs.Writes.{writes}
use Rattle.wf_stands.specs.Moment.{source_of}
use Rattle.wf_tables.specs.Tables.{count_in, events_in, left_in}
use Rattle.wf_trigger.specs.Starts.{StartTree}
use Rattle.wf_trigger.specs.StartsSeen.{start_tree}
use Rattle.wf_trigger.specs.declared.starts.Start.{Start}
use Rattle.wf_stands.specs.Seen.{row_content}
use Rattle.wf_runnable.specs.Aside.{Aside, IsAside}
use Rattle.wf_session.specs.Begun.{AreListed, Comes, Going, IsStill, graph, moment, price}
use Rattle.wf_waits.specs.Kept.{keys_of}
use Rattle.wf_waits.specs.declared.waiting.Waiting.{Waiting}
use Rattle.wf_session.specs.Waiting.{AreAllKept, AreWaiting}

-- a run of a definition that starts so, with the inputs that are there
abbrev pub run_of : DefTree → StartTree → InputsTree → Going
run_of d start inputs = record { definition = d; environment = fresh start inputs; by = source_of d start inputs }

-- the same by what the calls are given
abbrev pub run_with : Checked → Start → Inputs → Going
run_with checked start inputs = run_of (def_tree checked.def) (start_tree start) (inputs_tree inputs)

module _ (g : Going) (rest : Aside) where
  -- Of each variable the store has the last writer among the rows.
  abbrev pub HasLastWriters : Type 0
  HasLastWriters =
      (v : ℕ) → IsLastWritten (graph g) g.by (writer (writes g.definition) v) (moment rest.0.0).rows (store_in rest.0.0.1.1.1 v)

  -- What its sums say it costs.
  abbrev pub HasItsSums : Type 0
  HasItsSums =
      AreSumsOf row_content begun_tree decision_tree verdict_tree (graph g) cost_of_row begun_weight g.by.items decision_weight rest.0.0.0
      rest.0.0.1.0 rest.0.0.1.1.0 rest.1

  -- It may be gone on from: a run with the answers that are there has led to it, and what is kept beside its tables is its own.
  pub record MayGoOn : Type 0 where
    pub comes : Comes g rest.0.0
    pub counts : AreCounts (graph g) g.by (moment rest.0.0) (count_in rest.0.1.0) (count_in rest.0.1.1.0)
    pub left : AreLeft (graph g) g.by (moment rest.0.0) (left_in rest.0.0.1.1.0)
    pub enabled : IsReady (graph g) g.by (moment rest.0.0) (events_in rest.0.1.1.1)
    pub last : HasLastWriters
    pub sums : HasItsSums

  -- The run stands there: nothing may happen but attempts that have no answer, and these are kept.
  pub record Stands (waits : List Waiting) : Type 0 where
    pub aside : IsAside g.definition g.environment g.by rest
    pub last : HasLastWriters
    pub listed : AreListed rest.0.0
    pub still : IsStill g rest.0.0
    pub waiting : AreWaiting g (moment rest.0.0) waits
    pub all : AreAllKept g (moment rest.0.0) waits
    pub within : price g rest.0.0 ≤ 67108864

-- the keys that are wanted: none of a run that has failed
abbrev pub wanted_in : Option Aside → List Waiting → List Key
wanted_in None waits = []
wanted_in (Some rest) waits = keys_of waits
