use Rattle.std.proofs.Common.{◌≡◌, drop, map}
use Rattle.wf_val.specs.Seen.{tree}
use Rattle.wf_answers.specs.Gathered.{gathered, gathered_onto}
use Rattle.wf_answers.specs.GatherSeen.{gather_tree}
use Rattle.wf_answers.specs.Members.{answer_of}
use Rattle.wf_answers.proofs.gather.gathered.Given as goal

-- what is gathered so far, with the answers that are left
abbrev pub invariant-loop-value : goal.invariant-loop-value
invariant-loop-value l =
    gathered_onto (gather_tree l.gather) (map answer_of (map tree (drop l.value-index l.values)))
    ≡ gathered (map answer_of (map tree l.values))
