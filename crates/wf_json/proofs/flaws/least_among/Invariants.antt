use Rattle.std.proofs.Common.{◌≡◌, option_map, string_bytes}
use Rattle.wf_json.specs.Found.{pointer_after}
use Rattle.wf_json.proofs.flaws.least_among.Given as goal

-- the least so far, and those of what is left
abbrev pub invariant-loop-name : goal.invariant-loop-name
invariant-loop-name l =
    pointer_after (option_map string_bytes l.best) l.name-iterator
    ≡ pointer_after (option_map string_bytes l.fn.best) l.fn.found.entries
