use Rattle.std.proofs.Common.{◌≡◌, drop, map}
use Rattle.std.specs.List.{list_any}
use Rattle.wf_val.specs.Seen.{tree}
use Rattle.wf_schema.specs.Asked.{is_same}
use Rattle.wf_schema.proofs.asked.is_one_of.Given as goal

-- those that are left decide
abbrev pub invariant-loop-other : goal.invariant-loop-other
invariant-loop-other l = list_any (is_same (tree l.value)) (map tree (drop l.other-index l.others))
    ≡ list_any (is_same (tree l.value)) (map tree l.others)
