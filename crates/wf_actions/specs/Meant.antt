-- WHAT THE ACTIONS OF A RUN MEAN: the definition, the environment of the run, and the source of its rows.
use Rattle.std.specs.Prelude.{ℕ, Bool, List, [], Option, Some, None}
use Rattle.wf_answers.specs.InputsSeen.{inputs_tree}
use Rattle.wf_paying.specs.Inside.{InsideTree, inside_of}
use Rattle.wf_def.specs.ActionTree.{ActionTree, action_kind}
use Rattle.wf_def.specs.DefTree.{DefTree}
use Rattle.wf_catalog.specs.Leaf.{BegunTree}
use Rattle.wf_layers.specs.Address.{Address}
use Rattle.wf_layers.specs.Definition.{Graph}
use Rattle.wf_layers.specs.Machine.{Event}
use Rattle.wf_layers.specs.Source.{Source}
use Rattle.wf_catalog.specs.Environment.{Environment, fresh}
use Rattle.wf_catalog.specs.Points.{graph_of}
use Rattle.wf_catalog.specs.Record.{depth_of}
use Rattle.wf_catalog.specs.Answering.{table_by}
use Rattle.wf_opening.specs.Decisions.{DecisionTree}
use Rattle.wf_opening.specs.Verdicts.{VerdictTree}
use Rattle.wf_catalog.specs.ReadSeen.{def_tree}
use Rattle.wf_record.specs.Record.{Row}
use Rattle.wf_sight_laws.specs.Writes as numbered
use Rattle.wf_telling.specs.Told as trace
use Rattle.wf_catalog.specs.StartsSeen.{start_tree}
use Rattle.wf_paying.specs.Paying as paying
use Rattle.wf_paying.specs.Paying.{first_cost}
use Rattle.wf_actions.specs.declared.actions.Actions.{Actions}
use Rattle.wf_actions.specs.Origin.{source_by}

abbrev pub definition_of : Actions → DefTree
definition_of a = def_tree a.ready.now.checked.now.def

abbrev pub environment_of : Actions → Environment
environment_of a = fresh (start_tree a.start.now) (inputs_tree a.inputs.now)

abbrev pub graph : Actions → Graph
graph a = graph_of (definition_of a)

abbrev pub source : Actions → Source Row BegunTree DecisionTree VerdictTree
source a = source_by (definition_of a) (start_tree a.start.now) (inputs_tree a.inputs.now) a.old

abbrev pub depth : Actions → ℕ → ℕ
depth a = depth_of (definition_of a)

abbrev pub writes : Actions → ℕ → Address → Row → Bool
writes a = numbered.writes (definition_of a)

-- what its run costs before the first event, and what the rows cost that it means
abbrev pub fee : Actions → ℕ
fee a = first_cost (start_tree a.start.now)

abbrev pub rows_meant : Actions → ℕ
rows_meant a = paying.rows_meant (definition_of a) (table_by (definition_of a) (source a))

-- What a trace tells of an event of a number, by the rows that the definition means.
abbrev pub told : Actions → Event → ℕ → List ℕ
told a = trace.told (definition_of a) (source a) (table_by (definition_of a) (source a))

-- What closing asks of the action of a number; of a number that no action has it asks nothing.
abbrev pub inside_by : Option ActionTree → InsideTree
inside_by None = record { graphs = []; terminates = [] }
inside_by (Some a) = inside_of (action_kind a)
