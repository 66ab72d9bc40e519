-- A drill, as contracts see it.
use Rattle.std.specs.Prelude.{◌≡◌, ℕ, []}
use Rattle.wf_val.specs.Seen.{tree}
use Rattle.wf_drill.specs.Drill.{drill_definition, drill_inputs, forward, leaping}
use Rattle.wf_drill.specs.declared.drill.Drill.{Drill}

-- It is the drill of this size.
pub record IsDrill (n : ℕ) (d : Drill) : Type 0 where
  pub definition_is : tree d.definition ≡ drill_definition n
  pub inputs_are : tree d.inputs ≡ drill_inputs n
  pub plain_is : d.plain ≡ []
  pub forward_is : d.forward ≡ forward n
  pub leaping_is : d.leaping ≡ leaping n
