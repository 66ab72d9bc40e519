-- A store after a row that gives several variables values.
use Rattle.std.specs.Prelude.{ℕ, cond, nat_eq, List, [], ◌∷◌, Option, Some, map}
use Rattle.wf_layers.specs.Address.{Address}
use Rattle.wf_tables.specs.Instances.{address_of}
use Rattle.wf_tables.specs.Instance.{Instance}
use Rattle.wf_tables.specs.WriterAt.{WriterAt}

-- of each variable this is the last writer
abbrev pub writers_of : Instance → List ℕ → List WriterAt
writers_of place variables = map (λ v. record { variable = v; instance = place }) variables

-- one put after the other
abbrev pub put_each : List WriterAt → (ℕ → Option Address) → ℕ → Option Address
put_each [] t v = t v
put_each (w ∷ ws) t v = put_each ws (λ u. cond (nat_eq w.variable u) (Some (address_of w.instance)) (t u)) v
