-- A RUN THAT WAS PUT ASIDE.
use Rattle.std.specs.Prelude.{List}
use Rattle.wf_answers.specs.declared.inputs.Inputs.{Inputs}
use Rattle.wf_def.specs.DefTree.{DefTree}
use Rattle.wf_done.specs.DoneSeen.{begun_tree}
use Rattle.wf_ended.specs.Writes.{writes}
use Rattle.wf_environment.specs.Environment.{Environment}
use Rattle.wf_environment.specs.Start.{Start}
use Rattle.wf_layers.specs.Machine.{IsOver}
use Rattle.wf_actions.specs.Answering.{RowSource}
use Rattle.wf_actions.specs.MeteredSums.{Sums}
use Rattle.wf_actions.specs.Paying.{cost_of_row}
use Rattle.wf_actions.specs.Points.{graph_of}
use Rattle.wf_actions.specs.Record.{depth_of}
use Rattle.wf_actions.specs.Rest.{IsRest}
use Rattle.wf_actions.specs.Seen.{row_content}
use Rattle.wf_actions.specs.Source.{source}
use Rattle.wf_actions.specs.Sums.{AreSumsOf}
use Rattle.wf_actions.specs.Weights.{begun_weight, decision_weight}
use Rattle.wf_opening.specs.DecisionSeen.{decision_tree, verdict_tree}
use Rattle.wf_rules.specs.declared.checked.Checked.{Checked}
use Rattle.wf_tables.specs.declared.entries.CountAt.{CountAt}
use Rattle.wf_tables.specs.declared.entries.EventAt.{EventAt}
use Rattle.wf_runnable.specs.Over.{Lists, moment}
use Rattle.wf_runnable.specs.Runnable.{begun_with, definition}

-- a state without its actions, its counts and ready set, and its sums
abbrev pub Aside : Type 0
Aside = (Lists × (List CountAt × (List CountAt × List EventAt))) × Sums

-- It is one of a run that began so, which may be gone on from, and costs what its sums say.
pub record IsAside (d : DefTree) (e : Environment) (m : RowSource) (rest : Aside) : Type 0 where
  pub kept : IsRest row_content begun_tree decision_tree verdict_tree (graph_of d) m (depth_of d) (writes d) rest.0
  pub sums : AreSumsOf row_content begun_tree decision_tree verdict_tree (graph_of d) cost_of_row begun_weight m.items decision_weight
      rest.0.0.0 rest.0.0.1.0 rest.0.0.1.1.0 rest.1

-- And nothing may happen in it any more.
pub record IsAsideAtLast (checked : Checked) (start : Start) (inputs : Inputs) (rest : Aside) : Type 0 where
  pub aside : IsAside (definition checked) (begun_with start inputs) (source (definition checked) (begun_with start inputs)) rest
  pub over : IsOver (graph_of (definition checked)) (source (definition checked) (begun_with start inputs)) (moment rest.0.0)
