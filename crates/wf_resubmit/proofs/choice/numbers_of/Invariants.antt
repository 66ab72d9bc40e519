use Rattle.std.proofs.Common.{◌≡◌, ◌++◌, drop}
use Rattle.wf_def.specs.ActionSeen.{graph_tree}
use Rattle.wf_resubmit.specs.Refused.{numbers_of}
use Rattle.wf_resubmit.proofs.choice.numbers_of.Given as goal

abbrev pub invariant-loop-name : goal.invariant-loop-name
invariant-loop-name l =
    l.numbers ++ numbers_of (graph_tree l.graph) (drop l.name-index l.names) ≡ numbers_of (graph_tree l.graph) l.names
