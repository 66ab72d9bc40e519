-- WHAT A RUN GOES BY, as the program makes it: inputs that were read, and one of the runs that these start of the definition.
use Rattle.std.specs.Prelude.{◌≡◌, List, Ok}
use Rattle.std.specs.List.{AllByRecursion}
use Rattle.wf_layers.specs.Listed.{Among}
use Rattle.wf_val.specs.ValueTree.{ValueTree}
use Rattle.wf_val.specs.WellFormed.{IsWellFormed}
use Rattle.wf_answers.specs.Inputs.{InputsTree, inputs_of}
use Rattle.wf_def.specs.DefTree.{DefTree}
use Rattle.wf_trigger.specs.Runs.{runs_of}
use Rattle.wf_trigger.specs.Starts.{StartTree}
use Rattle.wf_environment.specs.Environment.{Environment, Layer}
use Rattle.wf_record.specs.Record.{RecordTree}
use Rattle.wf_record_form.specs.ReadBack.{IsInRange}

-- some value of a file means these inputs
pub record AreHandedIn (i : InputsTree) : Type 0 where
  pub value : ValueTree
  pub well_formed : IsWellFormed value
  pub means : inputs_of value ≡ Ok i

-- it is one of the runs that start of the definition with these inputs
pub record IsStartOf (d : DefTree) (i : InputsTree) (s : StartTree) : Type 0 where
  pub starts : List StartTree
  pub are : runs_of d.parameters d.given d.triggers i ≡ Ok starts
  pub among : Among starts s

-- The run that came first started so, and the inputs of each layer were handed in, too.
pub record IsSurroundedBy (d : DefTree) (e : Environment) : Type 0 where
  pub inputs : AreHandedIn e.inputs
  pub start : IsStartOf d e.inputs e.start
  pub layers : AllByRecursion (λ (l : Layer). AreHandedIn l.inputs) e.layers

-- What the type of a record keeps: its numbers are in range, and its values are well formed, of which the trigger counts here.
pub record IsKept (r : RecordTree) : Type 0 where
  pub in_range : IsInRange r
  pub trigger : IsWellFormed r.trigger
