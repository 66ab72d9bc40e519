use Rattle.std.proofs.Common.{◌≡◌, ◌++◌, drop, map}
use Rattle.wf_val.specs.Seen.{member}
use Rattle.wf_def.specs.DefSeen.{trigger_tree}
use Rattle.wf_reading.specs.Sections.{trigger_of}
use Rattle.wf_reading.proofs.sections.triggers_of.Given as goal

abbrev pub invariant-loop-name : goal.invariant-loop-name
invariant-loop-name l = map trigger_tree l.found ++ map trigger_of (map member (drop l.name-index l.members)) ≡ map trigger_of (map member l.members)
