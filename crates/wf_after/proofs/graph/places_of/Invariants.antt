use Rattle.std.proofs.Common.{◌≡◌, ◌++◌, drop, map}
use Rattle.wf_val.specs.Seen.{member}
use Rattle.wf_after.specs.Waits.{places_of}
use Rattle.wf_after.proofs.graph.places_of.Given as goal

-- the places so far, with those of what is left, are all
abbrev pub invariant-loop-name : goal.invariant-loop-name
invariant-loop-name l =
    l.places.items ++ places_of (map member l.graph) (map member (drop l.name-index l.entries))
    ≡ places_of (map member l.graph) (map member l.entries)
