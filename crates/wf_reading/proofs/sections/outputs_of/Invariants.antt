use Rattle.std.proofs.Common.{◌≡◌, ◌++◌, drop, map}
use Rattle.wf_val.specs.Seen.{member}
use Rattle.wf_def.specs.DefSeen.{output_tree}
use Rattle.wf_reading.specs.Sections.{output_of}
use Rattle.wf_reading.proofs.sections.outputs_of.Given as goal

abbrev pub invariant-loop-name : goal.invariant-loop-name
invariant-loop-name l = map output_tree l.found ++ map output_of (map member (drop l.name-index l.members)) ≡ map output_of (map member l.members)
