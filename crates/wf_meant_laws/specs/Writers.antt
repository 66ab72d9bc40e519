-- Who wrote a variable last, by the writer's address: what a store keeps that each finished writer overwrites.
use Rattle.std.specs.Prelude.{ℕ, Bool, false, cond, List, Option, Some, None, option_map}
use Rattle.std.specs.Option.{option_and_then}
use Rattle.wf_val.specs.ValueTree.{ValueTree}
use Rattle.wf_layers.specs.Address.{Address, Table}
use Rattle.wf_seen_laws.specs.ActionTree.{ActionTree}
use Rattle.wf_seen_laws.specs.AllActions.{numbered}
use Rattle.wf_seen_laws.specs.DefTree.{DefTree}
use Rattle.wf_record.specs.Record.{Row}
use Rattle.wf_instance.specs.MeantVariables.{given_by, writes}

abbrev pub writes_if : List ℕ → Option ActionTree → Bool
writes_if v None = false
writes_if v (Some a) = writes v a

-- the action of the number n is one that writes the variable
abbrev pub is_writer : DefTree → List ℕ → ℕ → Bool
is_writer d v n = writes_if v (numbered n d.top)

-- What a row writes to the variable is its address, where its action is a writer and it gives the variable a value. A row of any other
-- action may look the same.
abbrev pub writes_to : DefTree → List ℕ → Address → Row → Option Address
writes_to d v y row = cond (is_writer d v y.name) (option_map (λ value. y) (given_by v row)) None

-- the value that the writer at the address gave, if there is one
abbrev pub value_at : List ℕ → Table Row → Option Address → Option ValueTree
value_at v rows writer = option_and_then (λ y. option_and_then (given_by v) (rows y)) writer
