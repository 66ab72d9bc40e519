-- Instances, by names.
use Rattle.std.specs.Prelude.{ℕ, List}
use Rattle.wf_val.specs.declared.address.Address.{Address}

abbrev pub named : List ℕ → List ℕ → Address
named name at' = record { name = name; at = at' }
