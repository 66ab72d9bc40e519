use Rattle.std.proofs.Common.{◌≡◌, List, ◌++◌, map, option_map, string_bytes}
use Rattle.wf_json.specs.Found.{found_member, pointer_after}
use Rattle.wf_json.proofs.FoundLemmas.{Entry}
use Rattle.wf_json.proofs.flaws.object_kept.Given as goal

-- what is moved so far is done, and the rest is left
abbrev pub invariant-loop-name : goal.invariant-loop-name
invariant-loop-name l =
    (done : List Entry) × (l.fn.found.entries ≡ done ++ l.name-iterator) × (l.fields ≡ map found_member done)
    × (pointer_after (option_map string_bytes l.best) l.name-iterator
    ≡ pointer_after (option_map string_bytes l.fn.best) l.fn.found.entries)
