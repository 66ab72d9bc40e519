use Rattle.std.proofs.Common.{◌≡◌, ◌++◌, drop, flat_map, map}
use Rattle.wf_val.specs.Seen.{tree}
use Rattle.wf_judged.specs.Unanswered.{unanswered, unanswered_in}
use Rattle.wf_judged.specs.Why.{why}
use Rattle.wf_judged.proofs.unanswered.add_unanswered.Given as goal

-- what is told so far, and of the rows that are left
abbrev pub invariant-loop-row : goal.invariant-loop-row
invariant-loop-row l =
    map why l.all.items ++ flat_map unanswered_in (map tree (drop l.row-index l.row-items))
    ≡ map why l.fn.all.items ++ unanswered (tree l.record)
