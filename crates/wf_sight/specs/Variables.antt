-- What a run sees of a variable.
use Rattle.std.specs.Prelude.{ℕ, List, Option}
use Rattle.std.specs.Option.{option_and_then}
use Rattle.wf_val.specs.ValueTree.{ValueTree}
use Rattle.wf_layers.specs.Address.{Address, Table}
use Rattle.wf_def.specs.DefTree.{DefTree}
use Rattle.wf_record.specs.Record.{Row}
use Rattle.wf_views.specs.MeantVariables.{given_by}
use Rattle.wf_views.specs.Variables.{variable_number}

-- the value that the row of its last writer gives a variable
abbrev pub variable_in : DefTree → Table Row → (ℕ → Option Address) → List ℕ → Option ValueTree
variable_in d known store k =
    option_and_then (λ v. option_and_then (λ y. option_and_then (given_by k) (known y)) (store v)) (variable_number d k)
