-- What the actions of a run act for.
use Rattle.std.specs.Prelude.{◌≡◌, ℕ, List}
use Rattle.wf_answers.specs.InputsSeen.{inputs_tree}
use Rattle.wf_answers.specs.declared.inputs.Inputs.{Inputs}
use Rattle.wf_def.specs.DefTree.{DefTree}
use Rattle.wf_catalog.specs.Environment.{Environment, fresh}
use Rattle.wf_layers.specs.Laws.{IsInstance}
use Rattle.wf_catalog.specs.Answering.{RowSource}
use Rattle.wf_catalog.specs.Resubmitted.{pinned_source}
use Rattle.wf_catalog.specs.Source as meant
use Rattle.wf_sight_laws.specs.Answered.{IsAnswered}
use Rattle.wf_catalog.specs.ReadSeen.{def_tree}
use Rattle.wf_record.specs.Seen.{record_tree}
use Rattle.wf_record.specs.declared.record.Record.{Record}
use Rattle.wf_catalog.specs.StartsSeen.{start_tree}
use Rattle.wf_catalog.specs.Start.{Start}
use Rattle.wf_actions.specs.Meant.{definition_of, depth, environment_of, graph, source}
use Rattle.wf_actions.specs.declared.actions.Actions.{Actions}
use Rattle.wf_actions.specs.declared.actions.Ready.{Ready}

-- the definition that was made ready, and the environment of a run that begins so
abbrev pub ready_definition : Ready → DefTree
ready_definition r = def_tree r.checked.now.def

abbrev pub begun_with : Start → Inputs → Environment
begun_with start inputs = fresh (start_tree start) (inputs_tree inputs)

-- They are the actions of this definition in this environment, and by this source their answers come about.
pub record ActFor (a : Actions) (d : DefTree) (e : Environment) (m : RowSource) : Type 0 where
  pub definition : definition_of a ≡ d
  pub environment : environment_of a ≡ e
  pub by_source : source a ≡ m
  pub answered : IsAnswered (definition_of a) (environment_of a) (source a)

-- of a run that isn't made from another, which is an instance of the laws of order
pub record ActForItself (r : Ready) (start : Start) (inputs : Inputs) (a : Actions) : Type 0 where
  pub acts : ActFor a (ready_definition r) (begun_with start inputs) (meant.source (ready_definition r) (begun_with start inputs))
  pub instance : IsInstance (graph a) (source a) (depth a)

-- of one that is made from an older run, resubmitted from the actions of these numbers
abbrev pub resumed_source : Ready → Inputs → Record → List ℕ → RowSource
resumed_source r inputs log from = pinned_source (ready_definition r) (record_tree log) (inputs_tree inputs) from

abbrev pub ActAgain : Ready → Start → Inputs → Record → List ℕ → Actions → Type 0
ActAgain r start inputs log from a = ActFor a (ready_definition r) (begun_with start inputs) (resumed_source r inputs log from)

abbrev pub AnswersAgain : Ready → Start → Inputs → Record → List ℕ → Type 0
AnswersAgain r start inputs log from = IsAnswered (ready_definition r) (begun_with start inputs) (resumed_source r inputs log from)
