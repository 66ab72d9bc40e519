use Rattle.std.proofs.Common.{◌≡◌, [], drop, map}
use Rattle.wf_val.specs.Seen.{member}
use Rattle.wf_reading.specs.Sections.{given_in}
use Rattle.wf_reading.proofs.sections.given_in.Given as goal

abbrev pub invariant-loop-name : goal.invariant-loop-name
invariant-loop-name l = given_in (map member (drop l.name-index l.members)) l.given ≡ given_in (map member l.members) []
