-- WHAT AN ACTION HAS COME TO: all of its row but its address, its tracked properties and its attempts.
use Rattle.std.specs.Prelude.{ℕ, List, [], ◌∷◌, ◌++◌, codes}
use Rattle.wf_val.specs.ValueTree.{ValueTree, null, text, object, members}
use Rattle.wf_val.specs.declared.fault.EvalFault.{EvalFault}
use Rattle.wf_schema.specs.FaultText.{fault_text}
use Rattle.wf_schema.specs.Json.{string}
use Rattle.wf_connect.specs.Record.{status_name}
use Rattle.wf_connect.specs.Status.{Status}
use Rattle.wf_variables.specs.Made.{MadeTree}

pub record DoneTree : Type 0 where
  pub status : Status
  pub code : List ℕ
  pub inputs : ValueTree
  pub outputs : ValueTree
  pub error : ValueTree

-- it made this
abbrev pub succeeded : MadeTree → DoneTree
succeeded m = record { status = Status.Succeeded; code = codes "OK"; inputs = m.inputs; outputs = m.outputs; error = null }

-- something that it asked for has no value, or what it was to keep doesn't fit: it keeps nothing
abbrev pub faulted : EvalFault → DoneTree
faulted f = record {
  status = Status.Failed;
  code = codes "InvalidTemplate";
  inputs = null;
  outputs = null;
  error = text (fault_text f);
}

-- what it was to give out isn't as its schema asks, at this place: it keeps its inputs
abbrev pub mismatched : ValueTree → List ℕ → DoneTree
mismatched inputs pointer = record {
  status = Status.Failed;
  code = codes "SchemaMismatch";
  inputs = inputs;
  outputs = null;
  error = text (codes "Schema " ++ string pointer);
}

-- it didn't run
abbrev pub skipped : DoneTree
skipped = record { status = Status.Skipped; code = codes "ActionSkipped"; inputs = null; outputs = null; error = null }

-- what expressions see of the action of this name: what `actions` gives of it, and `action` as it ends
abbrev pub view : List ℕ → DoneTree → ValueTree
view name d = object (members (
    (codes "code", text d.code)
    ∷ (codes "error", d.error)
    ∷ (codes "inputs", d.inputs)
    ∷ (codes "name", text name)
    ∷ (codes "outputs", d.outputs)
    ∷ (codes "status", text (status_name d.status))
    ∷ []))
