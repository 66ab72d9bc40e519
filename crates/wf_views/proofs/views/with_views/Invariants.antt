use Rattle.std.proofs.Common.{◌≡◌, ◌++◌, drop, map}
use Rattle.wf_catalog.specs.PlacesSeen.{named_tree}
use Rattle.wf_views.specs.Seen.{rows_seen}
use Rattle.wf_views.specs.Views.{views_at}
use Rattle.wf_views.proofs.views.with_views.Given as goal

abbrev pub invariant-loop-named : goal.invariant-loop-named
invariant-loop-named l =
    l.views ++ views_at (rows_seen l.rows.0) (map named_tree (drop l.named-index l.inner)) l.at
    ≡ l.fn.found ++ views_at (rows_seen l.rows.0) (map named_tree l.inner) l.at
