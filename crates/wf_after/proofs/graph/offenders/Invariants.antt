use Rattle.std.proofs.Common.{◌≡◌, drop, map, option_map, string_bytes}
use Rattle.wf_json.specs.Pointer.{lesser, least}
use Rattle.wf_val.specs.Seen.{member}
use Rattle.wf_after.specs.Waits.{offenders}
use Rattle.wf_after.proofs.graph.offenders.Given as goal

-- the least so far and the least of what is left
abbrev pub invariant-loop-place : goal.invariant-loop-place
invariant-loop-place l =
    lesser (option_map string_bytes l.best)
    (least (offenders (map member l.graph) (map (λ r. r.items) l.paths) l.place (map member (drop l.place l.graph))))
    ≡ least (offenders (map member l.graph) (map (λ r. r.items) l.paths) 0 (map member l.graph))
