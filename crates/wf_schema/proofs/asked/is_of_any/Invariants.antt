use Rattle.std.proofs.Common.{◌≡◌, drop, map}
use Rattle.std.specs.List.{list_any}
use Rattle.wf_val.specs.Seen.{tree}
use Rattle.wf_schema.specs.Asked.{is_of_named}
use Rattle.wf_schema.proofs.asked.is_of_any.Given as goal

-- those that are left decide
abbrev pub invariant-loop-name : goal.invariant-loop-name
invariant-loop-name l = list_any (is_of_named (tree l.value)) (map tree (drop l.name-index l.names))
    ≡ list_any (is_of_named (tree l.value)) (map tree l.names)
