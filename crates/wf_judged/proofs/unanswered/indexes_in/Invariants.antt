use Rattle.std.proofs.Common.{◌≡◌, ◌++◌, drop, map, option_map}
use Rattle.wf_val.specs.Seen.{tree}
use Rattle.wf_judged.specs.Unanswered.{indexes_in}
use Rattle.wf_judged.proofs.unanswered.indexes_in.Given as goal

-- the numbers so far, and those that are left, if each of them is one
abbrev pub invariant-loop-value : goal.invariant-loop-value
invariant-loop-value l =
    option_map (λ ns. l.at ++ ns) (indexes_in (map tree (drop l.value-index l.values))) ≡ indexes_in (map tree l.values)
