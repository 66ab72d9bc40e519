use Rattle.std.proofs.Common.{◌≡◌, map}
use Rattle.wf_catalog.specs.PlacesSeen.{named_tree}
use Rattle.wf_views.specs.Seen.{rows_seen}
use Rattle.wf_views.specs.Views.{results_in}
use Rattle.wf_views.proofs.views.views_of_every.Given as goal

abbrev pub invariant-loop-index : goal.invariant-loop-index
invariant-loop-index l = l.views ≡ results_in (rows_seen l.rows.0) (map named_tree l.inner) l.at l.index
