use Rattle.std.proofs.Common.{◌≡◌}
use Rattle.wf_def.specs.ActionSeen.{action_tree}
use Rattle.wf_views.specs.Seen.{rows_seen}
use Rattle.wf_views.specs.Views.{views_in}
use Rattle.wf_views.proofs.views.views_of.Given as goal

abbrev pub invariant-loop-index : goal.invariant-loop-index
invariant-loop-index l = l.views ≡ views_in (rows_seen l.rows.0) (action_tree l.action) l.at l.index
