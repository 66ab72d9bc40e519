-- The variables that were made so far, as contracts see them.
use Rattle.std.specs.Prelude.{Result, Ok, Err}
use Rattle.wf_val.specs.declared.fault.EvalFault.{EvalFault}
use Rattle.wf_variables.specs.Initials.{ItemsTree}
use Rattle.wf_variables.specs.declared.initials.Items.{Items}

abbrev pub items_tree : Items → ItemsTree
items_tree i = record { kept = i.kept; given = i.given }

abbrev pub items_seen : Result Items EvalFault → Result ItemsTree EvalFault
items_seen (Ok i) = Ok (items_tree i)
items_seen (Err f) = Err f
