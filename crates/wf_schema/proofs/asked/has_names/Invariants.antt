use Rattle.std.proofs.Common.{◌≡◌, drop, map}
use Rattle.std.specs.List.{list_all}
use Rattle.wf_val.specs.Seen.{tree}
use Rattle.wf_schema.specs.Asked.{has_name}
use Rattle.wf_schema.proofs.asked.has_names.Given as goal

-- those that are left decide
abbrev pub invariant-loop-name : goal.invariant-loop-name
invariant-loop-name l = list_all (has_name (tree l.value)) (map tree (drop l.name-index l.names))
    ≡ list_all (has_name (tree l.value)) (map tree l.names)
