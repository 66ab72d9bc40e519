-- The runs that start, as contracts see them.
use Rattle.std.specs.Prelude.{List}
use Rattle.wf_trigger.specs.Starts.{Shared, StartTree, starts_of}
use Rattle.wf_trigger.specs.declared.starts.Start.{Start}
use Rattle.wf_trigger.specs.declared.starts.Starts.{Starts}
use Rattle.wf_val.specs.Seen.{tree}

abbrev pub start_tree : Start → StartTree
start_tree s = record { run = s.run; seed = s.seed; trigger = tree s.trigger; parameters = s.parameters }

abbrev pub shared_of : Starts → Shared
shared_of s = record { run = s.run; seed = s.seed; name = tree s.name; outputs = tree s.outputs; parameters = s.parameters }

abbrev pub starts_seen : Starts → List StartTree
starts_seen s = starts_of (shared_of s) s.items s.holds
