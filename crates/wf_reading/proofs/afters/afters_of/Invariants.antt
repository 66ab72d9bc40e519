use Rattle.std.proofs.Common.{◌≡◌, ◌++◌, drop, map}
use Rattle.wf_val.specs.Seen.{member}
use Rattle.wf_reading.specs.Afters.{after_of}
use Rattle.wf_reading.specs.Numbers.{number_among}
use Rattle.wf_reading.proofs.afters.afters_of.Given as goal

abbrev pub invariant-loop-name : goal.invariant-loop-name
invariant-loop-name l =
    l.afters ++ map (after_of (number_among l.numbers)) (map member (drop l.name-index l.name-items)) ≡ map (after_of (number_among l.numbers)) (map member l.name-items)
