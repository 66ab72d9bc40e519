use Rattle.std.proofs.Common.{◌≡◌, ◌++◌, drop, map}
use Rattle.wf_val.specs.Seen.{member}
use Rattle.wf_def.specs.DefSeen.{param_tree}
use Rattle.wf_reading.specs.Sections.{parameter_of}
use Rattle.wf_reading.proofs.sections.parameters_of.Given as goal

abbrev pub invariant-loop-name : goal.invariant-loop-name
invariant-loop-name l = map param_tree l.found ++ map parameter_of (map member (drop l.name-index l.members)) ≡ map parameter_of (map member l.members)
