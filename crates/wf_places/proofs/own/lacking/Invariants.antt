use Rattle.std.proofs.Common.{◌≡◌, drop, map, option_map, string_bytes}
use Rattle.wf_val.specs.Seen.{tree}
use Rattle.wf_places.specs.Form.{lacking}
use Rattle.wf_json.specs.Pointer.{least, lesser}
use Rattle.wf_places.proofs.own.lacking.Given as goal

-- the least so far and the least of what is left
abbrev pub invariant-loop-name : goal.invariant-loop-name
invariant-loop-name l =
    lesser (option_map string_bytes l.best) (least (lacking (map (λ k. k.now) (drop l.name-index l.names)) (tree l.value)))
    ≡ least (lacking (map (λ k. k.now) l.names) (tree l.value))
