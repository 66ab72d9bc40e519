use Rattle.std.proofs.Common.{◌≡◌}
use Rattle.wf_asks.specs.Instances.{rows_in}
use Rattle.wf_def.specs.ActionSeen.{kind_tree}
use Rattle.wf_closing.specs.Inside.{any_own_failed, graphs_in}
use Rattle.wf_closing.specs.StepsSeen.{row_content}
use Rattle.wf_closing.proofs.closing.any_failed.Given as goal

abbrev pub invariant-loop-index : goal.invariant-loop-index
invariant-loop-index l =
    l.failed ≡ any_own_failed (graphs_in (kind_tree l.kind)) l.at (rows_in row_content l.rows.0) l.index
